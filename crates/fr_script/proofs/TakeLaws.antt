-- A document that is read only to its limit is the same document.
use Rattle.std.proofs.Common.{◌≡◌, ℕ, ◌+◌, ◌<◌, ◌≤◌, Bool, true, false, List, [], Option, Some, None, IfSome, length, take, drop, refl, sym, ap, ◌∙◌, arith}
use Rattle.std.specs.Prelude.{nat_lt, nat_le}
use Rattle.std.proofs.lemmas.List.{take-append-drop}
use Rattle.std.proofs.lemmas.List.{take_all}
use Rattle.std.proofs.Math.ListN.{length-take}
use Rattle.std.proofs.lemmas.Bool.{ltb-true, ltb-false, lt-leb}
use Rattle.std.specs.Option.{option_map}
use Rattle.std.specs.Io.KnownBytes.{prepend_known}
use Rattle.fr_doc.specs.declared.looping.TheConstants.{DOCUMENT_LIMIT}
use Rattle.fr_doc.specs.Causes.{LosesAtMost}
use Rattle.fr_script.specs.declared.subcommand.Subcommand.{Subcommand}
use Rattle.fr_script.specs.Documents.{document_of}
use Rattle.fr_script.specs.Reports.{outcome_of, outcome_of_document, report_of, report_of_document}

-- n stands for the most that is read, which is too large to compute with
pub at_limit : (n : ℕ) (bytes : List ℕ) → n ≡ DOCUMENT_LIMIT + 1 → document_of (take n bytes) ≡ document_of bytes
unfolding document_of
at_limit n bytes e = go (nat_lt (length bytes) n) refl
  where
    go : (b : Bool) → nat_lt (length bytes) n ≡ b → document_of (take n bytes) ≡ document_of bytes
    go true short =
        let below : length bytes < n = ltb-true (length bytes) n short in
        ap document_of (take_all n bytes (omega arith))
    go false long =
        let beyond : n ≤ length bytes = ltb-false (length bytes) n long in
        let cut : length (take n bytes) ≡ n = simp length-take (omega arith) in
        let first : nat_le (length (take n bytes)) DOCUMENT_LIMIT ≡ false
        = ap (λ (k : ℕ). nat_le k DOCUMENT_LIMIT) cut ∙ lt-leb n DOCUMENT_LIMIT (omega arith) in
        let second : nat_le (length bytes) DOCUMENT_LIMIT ≡ false = lt-leb (length bytes) DOCUMENT_LIMIT (omega arith) in
        rw (first, second) refl

pub outcome_at_limit : (subcommand : Subcommand) (n : ℕ) (bytes : List ℕ) → n ≡ DOCUMENT_LIMIT + 1
    → outcome_of subcommand (take n bytes) ≡ outcome_of subcommand bytes
outcome_at_limit subcommand n bytes e = ap (outcome_of_document subcommand) (at_limit n bytes e)

pub report_at_limit : (subcommand : Subcommand) (n : ℕ) (bytes : List ℕ) → n ≡ DOCUMENT_LIMIT + 1
    → report_of subcommand (take n bytes) ≡ report_of subcommand bytes
report_at_limit subcommand n bytes e = ap (report_of_document subcommand) (at_limit n bytes e)

-- what was read of a source is what it doesn't have any more
pub loses : (n : ℕ) (before after : Option (List ℕ)) → after ≡ option_map (drop n) before → LosesAtMost n before after
loses n None after e = ([], omega arith, ap (prepend_known []) (sym e))
loses n (Some bytes) after e = (
  take n bytes,
  simp length-take (omega arith),
  ap Some (sym (take-append-drop n bytes)) ∙ ap (prepend_known (take n bytes)) (sym e),
)

-- what is said of the told bytes, from another fact of them
pub over_told : (left : Option (List ℕ)) (P Q : List ℕ → Type 0) → ((bytes : List ℕ) → P bytes → Q bytes)
    → IfSome left P → IfSome left Q
over_told None P Q f p = p
over_told (Some bytes) P Q f p = f bytes p
