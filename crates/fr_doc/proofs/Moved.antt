-- Bytes that move from one list to another.
use Rattle.std.proofs.Common.{◌≡◌, ◌<◌, ◌≤◌, ◌+◌, ℕ, List, ◌++◌, length, take, drop, Option, None, Some, sym, ap, refl, ◌∙◌, append_assoc, arith, length-append}
use Rattle.std.proofs.lemmas.List.{take-append-drop, drop-drop}
use Rattle.std.proofs.Math.Seq.{take-append_seam}
use Rattle.std.specs.Io.KnownBytes.{prepend_known, append_known}
use Rattle.fr_doc.specs.Causes.{LosesAtMost, TakesBeginning}

-- Reading.

-- what was left is the bytes of a piece, and then what is left
pub left_by_piece : (bytes piece : List ℕ) (position n : ℕ) → take n piece ≡ take n (drop position bytes) → drop position bytes ≡ take n piece ++ drop (position + n) bytes
left_by_piece bytes piece position n same =
    sym (take-append-drop n (drop position bytes))
    ∙ ap (λ rest. take n (drop position bytes) ++ rest) (drop-drop n position bytes)
    ∙ ap (λ front. front ++ drop (position + n) bytes) (sym same)

prepend_known-append : (front back : List ℕ) (left : Option (List ℕ)) → prepend_known (front ++ back) left ≡ prepend_known front (prepend_known back left)
prepend_known-append front back None = refl
prepend_known-append front back (Some xs) = ap Some (append_assoc front back xs)

-- what was read before an error is lost, and what was lost by it
pub lost_with : (limit most : ℕ) (bytes : List ℕ) (before middle after : Option (List ℕ)) → before ≡ prepend_known bytes middle → LosesAtMost most middle after → length bytes + most ≤ limit → LosesAtMost limit before after
lost_with limit most bytes before middle after together (lost, few, moved) fits =
    (bytes ++ lost, omega (arith, length-append bytes lost), together ∙ ap (prepend_known bytes) moved ∙ sym (prepend_known-append bytes lost after))

-- Writing.

-- of the text all but the rest stands behind what was taken before
pub record IsWritten (before after : Option (List ℕ)) (text rest : List ℕ) : Type 0 where
  pub done : List ℕ
  pub parts : text ≡ done ++ rest
  pub taken : after ≡ append_known before done

append_known-append : (taken : Option (List ℕ)) (front back : List ℕ) → append_known (append_known taken front) back ≡ append_known taken (front ++ back)
append_known-append None front back = refl
append_known-append (Some xs) front back = ap Some (append_assoc xs front back)

-- after one more call
pub more_written : (before middle after : Option (List ℕ)) (text rest : List ℕ) (n : ℕ) → IsWritten before middle text rest → after ≡ append_known middle (take n rest) → IsWritten before after text (drop n rest)
more_written before middle after text rest n written moved = record {
  done = written.done ++ take n rest;
  parts = written.parts ∙ ap (λ back. written.done ++ back) (sym (take-append-drop n rest)) ∙ sym (append_assoc written.done (take n rest) (drop n rest));
  taken = moved ∙ ap (λ taken. append_known taken (take n rest)) written.taken ∙ append_known-append before written.done (take n rest);
}

-- where there is a rest
pub beginning_written : (before after : Option (List ℕ)) (text rest : List ℕ) → IsWritten before after text rest → 0 < length rest → TakesBeginning before after text
beginning_written before after text rest written some =
    let fewer : length written.done < length text = omega (arith, ap length written.parts, length-append written.done rest) in
    let front : take (length written.done) text ≡ written.done = ap (take (length written.done)) written.parts ∙ take-append_seam written.done rest in
    (length written.done, fewer, written.taken ∙ ap (append_known before) (sym front))
