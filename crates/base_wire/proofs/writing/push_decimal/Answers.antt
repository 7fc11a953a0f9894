use Rattle.std.proofs.Common.{◌≡◌, ℕ, List, [], ◌∷◌, ◌++◌, ap, ◌∙◌, append_assoc, rules, of_z, FitsSigned}
use Rattle.std.specs.Int.{w128, to_be_bytes}
use Rattle.std.proofs.lemmas.Int.{to_z-of_z}
use Rattle.base_wire.specs.Encoding.{encode_signed}
use Rattle.base_wire.specs.Parts.{encode_decimal}
use Rattle.base_wire.proofs.writing.push_decimal.Goals as goal

pub returns : goal.returns
unfolding encode_decimal
returns c =
    let z = c.args.number.mantissa in
    let fits : FitsSigned w128 z = search rules in
    let bytes : c.to_be_bytes.result ≡ encode_signed w128 z = c.to_be_bytes.ensures ∙ ap (λ x. to_be_bytes w128 (of_z w128 x)) (to_z-of_z w128 z fits) in
    c.in_ok-push.ensures.items
    ∙ ap (λ (x : List ℕ). x ++ c.args.number.places ∷ []) (c.in_ok-extend_from_slice.ensures.items ∙ ap (λ (x : List ℕ). c.args.out.now.items ++ x) bytes)
    ∙ append_assoc c.args.out.now.items (encode_signed w128 z) (c.args.number.places ∷ [])
