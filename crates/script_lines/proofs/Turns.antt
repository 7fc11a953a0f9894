-- One more turn of reading and of writing.
use Rattle.std.proofs.Common.{◌≡◌, ℕ, ◌+◌, ◌-◌, ◌≤◌, List, ◌++◌, length, take, drop, sym, ◌∙◌, ap, arith, length-drop, length-append}
use Rattle.std.proofs.Math.Seq.{take-add}
use Rattle.std.proofs.lemmas.List.{take-append-drop, take_all, length-take}
use Rattle.std.specs.declared.option.Option.{Option}
use Rattle.std.specs.Io.KnownBytes.{prepend_known, append_known}
use Rattle.script_lines.specs.Took.{TookJust, AddedFront}
use Rattle.script_lines.proofs.KnownLaws.{prepend_known-prepend_known, append_known-append_known}

-- the bytes that were taken, and those of one more read
pub took_more : (bytes more : List ℕ) (before mid now : Option (List ℕ)) → before ≡ prepend_known bytes mid → mid ≡ prepend_known more now → before ≡ prepend_known (bytes ++ more) now
took_more bytes more before mid now one two = one ∙ ap (prepend_known bytes) two ∙ prepend_known-prepend_known bytes more now

pub took_too_many : (n count : ℕ) (bytes buffer : List ℕ) (before mid now : Option (List ℕ)) → before ≡ prepend_known bytes mid → mid ≡ prepend_known (take count buffer) now → count ≤ length buffer → length bytes + count ≡ n → TookJust n before now
took_too_many n count bytes buffer before mid now one two within all = record {
  bytes = bytes ++ take count buffer;
  count = omega (arith, length-append bytes (take count buffer), length-take count buffer);
  taken = took_more bytes (take count buffer) before mid now one two;
}

module _ (text : List ℕ) (at : ℕ) (old mid now : Option (List ℕ)) (so_far : mid ≡ append_known old (take at text)) where
  -- a write that failed
  pub added_front : now ≡ mid → AddedFront text old now
  added_front same = record { front = take at text; rest = drop at text; parts = sym (take-append-drop at text); added = same ∙ so_far }

  -- a write that took n bytes of what was left
  pub added_more : (n : ℕ) → now ≡ append_known mid (take n (take (length text - at) (drop at text))) → now ≡ append_known old (take (at + n) text)
  added_more n added =
      let rest : take (length text - at) (drop at text) ≡ drop at text = take_all _ _ (omega (arith, length-drop at text)) in
      added
      ∙ ap (λ l. append_known mid (take n l)) rest
      ∙ ap (λ k. append_known k (take n (drop at text))) so_far
      ∙ append_known-append_known old (take at text) (take n (drop at text))
      ∙ ap (append_known old) (sym (take-add at n text))
