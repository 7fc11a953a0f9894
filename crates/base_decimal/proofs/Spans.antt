-- The longest front whose bytes pass.
use Rattle.std.proofs.Common.{◌≡◌, ℕ, Bool, true, false, cond, List, [], ◌∷◌, ◌++◌, refl, ap, ◌∙◌}
use Rattle.std.specs.Prelude.{not, ◌&&◌}
use Rattle.std.specs.List.{list_all}
use Rattle.base_decimal.specs.Digits.{span, stops}

pub and_both : (a b : Bool) → a && b ≡ true → (a ≡ true) × (b ≡ true)
and_both true b e = (refl, e)
and_both false b e = absurd cc

pub both_and : (a b : Bool) → a ≡ true → b ≡ true → a && b ≡ true
both_and a b e f = ap (λ x. x && b) e ∙ f

pub not_true : (a : Bool) → not a ≡ true → a ≡ false
not_true true e = absurd cc
not_true false e = refl

pub not_false : (a : Bool) → not a ≡ false → a ≡ true
not_false true e = refl
not_false false e = absurd cc

-- what span gives at a byte that passes or not
abbrev span_by : ℕ → List ℕ → List ℕ × List ℕ → Bool → List ℕ × List ℕ
span_by b z s passes = cond passes (b ∷ s.0, s.1) ([], b ∷ z)

pub span_at : (p : ℕ → Bool) (s rest : List ℕ) → list_all p s ≡ true → stops p rest ≡ true → span p (s ++ rest) ≡ (s, rest)
span_at p [] [] e f = refl
span_at p [] (b ∷ z) e f = ap (span_by b z (span p z)) (not_true (p b) f)
span_at p (b ∷ s) rest e f =
    let h = and_both (p b) (list_all p s) e in
    ap (span_by b (s ++ rest) (span p (s ++ rest))) h.0 ∙ ap (λ (x : List ℕ × List ℕ). let y : List ℕ × List ℕ = (b ∷ x.0, x.1) in y) (span_at p s rest h.1 f)

span_parts_by : (b : ℕ) (z : List ℕ) (s : List ℕ × List ℕ) → z ≡ s.0 ++ s.1 → (c : Bool) → b ∷ z ≡ (span_by b z s c).0 ++ (span_by b z s c).1
span_parts_by b z s e true = ap (λ (x : List ℕ). b ∷ x) e
span_parts_by b z s e false = refl

pub span_parts : (p : ℕ → Bool) (z : List ℕ) → z ≡ (span p z).0 ++ (span p z).1
span_parts p [] = refl
span_parts p (b ∷ z) = span_parts_by b z (span p z) (span_parts p z) (p b)

span_all_by : (p : ℕ → Bool) (b : ℕ) (z : List ℕ) (s : List ℕ × List ℕ) → list_all p s.0 ≡ true → (c : Bool) → p b ≡ c → list_all p (span_by b z s c).0 ≡ true
span_all_by p b z s e true f = both_and (p b) (list_all p s.0) f e
span_all_by p b z s e false f = refl

pub span_all : (p : ℕ → Bool) (z : List ℕ) → list_all p (span p z).0 ≡ true
span_all p [] = refl
span_all p (b ∷ z) = span_all_by p b z (span p z) (span_all p z) (p b) refl

span_stops_by : (p : ℕ → Bool) (b : ℕ) (z : List ℕ) (s : List ℕ × List ℕ) → stops p s.1 ≡ true → (c : Bool) → p b ≡ c → stops p (span_by b z s c).1 ≡ true
span_stops_by p b z s e true f = e
span_stops_by p b z s e false f = ap not f

pub span_stops : (p : ℕ → Bool) (z : List ℕ) → stops p (span p z).1 ≡ true
span_stops p [] = refl
span_stops p (b ∷ z) = span_stops_by p b z (span p z) (span_stops p z) (p b) refl

-- a test that fails on more
pub stops_sooner : (p q : ℕ → Bool) → ((b : ℕ) → q b ≡ false → p b ≡ false) → (z : List ℕ) → stops q z ≡ true → stops p z ≡ true
stops_sooner p q h [] e = refl
stops_sooner p q h (b ∷ z) e = ap not (h b (not_true (q b) e))
