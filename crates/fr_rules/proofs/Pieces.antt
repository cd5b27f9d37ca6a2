-- What a format prints, seen as a text that is grouped otherwise.
use Rattle.std.proofs.Common.{◌≡◌, ℕ, List, Result, Ok, Err, IfOk, String, Global, string_bytes, ◌++◌, ◌∙◌, append_assoc}
use Rattle.std.specs.Prelude.{codes}
use Rattle.fr_shape.specs.Validators.{quoted}

pub said_as : {E : Type 0} (r : Result (String Global) E) (printed said : List ℕ)
    → IfOk r (λ s. string_bytes s ≡ printed) → printed ≡ said → IfOk r (λ s. string_bytes s ≡ said)
said_as (Ok s) printed said prints same = prints ∙ same
said_as (Err e) printed said prints same = tt

two_between : (q text words other : List ℕ)
    → q ++ (text ++ ((q ++ (words ++ q)) ++ (other ++ q))) ≡ (q ++ text ++ q) ++ words ++ (q ++ other ++ q)
two_between q text words other = simp append_assoc

-- two quoted texts with words between them, piece by piece
pub two_quoted : (text words other : List ℕ)
    → codes "'" ++ (text ++ ((codes "'" ++ (words ++ codes "'")) ++ (other ++ codes "'"))) ≡ quoted text ++ words ++ quoted other
two_quoted = two_between (codes "'")
