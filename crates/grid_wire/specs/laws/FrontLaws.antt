-- What is refused for its front is refused by the reader of the whole.
use Rattle.std.proofs.Common.{◌≡◌, ℕ, List, Bool, true, false, drop, length, Result, Ok, Err, refl, ap}
use Rattle.std.specs.Prelude.{nat_lt, take, ◌==◌, if◌then◌else◌}
use Rattle.std.specs.Int.{w64}
use Rattle.std.specs.Str.{is_utf8}
use Rattle.base_values.specs.declared.EditError.{EditError}
use Rattle.base_values.specs.declared.EditError.TheVariants.{ParseDiffs}
use Rattle.base_wire.specs.Reads.{Read}
use Rattle.base_wire.specs.laws.Reading.{Reader, ◌>>=◌, after, bytes_at, check_at, count_at, counted_after, list_at, many_at, number_at, rest_after, text_at, whole}

abbrev given : {A : Type 0} → A → Result A EditError
given x = Ok x

same_error : {A B : Type 0} (d e : EditError) → ◌≡◌ {A = Result A EditError} (Err d) (Err e) → ◌≡◌ {A = Result B EditError} (Err d) (Err e)
same_error d e h = let p : d ≡ e = cc in ap Err p

-- so many bytes, and those after them
abbrev cut : ℕ × List ℕ → Read (List ℕ)
cut n = Ok (take n.0 n.1, drop n.0 n.1)

-- a reader that refuses bytes that begin with no count of what follows
abbrev pub AsksCount : {A : Type 0} → Reader A → Type 0
AsksCount read = (bytes : List ℕ) (e : EditError) → count_at bytes ≡ Err e → read bytes ≡ Err e

-- a text whose length is greater than the number of the bytes after it is refused as such a count is
few : (e : EditError) (n : ℕ × List ℕ) (b : Bool) → (if b then Err ParseDiffs else given n) ≡ Err e
    → ((if b then Err ParseDiffs else cut n) >>= λ x. if is_utf8 x.0 then Ok x else Err ParseDiffs) ≡ Err e
few e n true h = same_error ParseDiffs e h
few e n false h = absurd cc

lengthy : (e : EditError) (r : Result (ℕ × List ℕ) EditError) → (r >>= λ n. if nat_lt (length n.1) n.0 then Err ParseDiffs else Ok n) ≡ Err e
    → (r >>= λ n. check_at is_utf8 (bytes_at n.0) n.1) ≡ Err e
lengthy e (Err d) h = same_error d e h
lengthy e (Ok n) h = few e n (nat_lt (length n.1) n.0) h

pub text_asks : AsksCount text_at
unfolding text_at
text_asks bytes e refused = lengthy e (number_at w64 bytes) refused

counted : {A : Type 0} (read : Reader A) (e : EditError) (c : Result (ℕ × List ℕ) EditError) → c ≡ Err e → (c >>= λ n. many_at read n.0 n.1) ≡ Err e
counted read e (Ok n) h = absurd cc
counted read e (Err d) h = same_error d e h

pub list_asks : {A : Type 0} (read : Reader A) → AsksCount (list_at read)
list_asks read bytes e refused = counted read e (count_at bytes) refused

uncounted : (rest : List ℕ) (e : EditError) (c : Result (ℕ × List ℕ) EditError) → (c >>= λ n. Ok rest) ≡ Err e → c ≡ Err e
uncounted rest e (Ok n) h = absurd cc
uncounted rest e (Err d) h = same_error d e h

unread : {A : Type 0} (e : EditError) (r : Result (A × List ℕ) EditError) → r ≡ Err e → (r >>= λ x. if length x.1 == 0 then Ok x.0 else Err ParseDiffs) ≡ Err e
unread e (Ok x) h = absurd cc
unread e (Err d) h = same_error d e h

unfronted : {A : Type 0} (read : Reader A) → AsksCount read → (e : EditError) (r : Result (List ℕ) EditError) → (r >>= λ rest. count_at rest >>= λ n. Ok rest) ≡ Err e
    → ((r >>= λ rest. read rest) >>= λ x. if length x.1 == 0 then Ok x.0 else Err ParseDiffs) ≡ Err e
unfronted read asks e (Err d) h = same_error d e h
unfronted read asks e (Ok rest) h = unread e (read rest) (asks rest e (uncounted rest e (count_at rest) h))

-- bytes that do not begin with a format's first ones and a count are refused by a reader that asks for both
pub front_refused : {A : Type 0} (read : Reader A) → AsksCount read → (front bytes : List ℕ) (e : EditError) → counted_after front bytes ≡ Err e → whole (after front read) bytes ≡ Err e
front_refused read asks front bytes e refused = unfronted read asks e (rest_after front bytes) refused
