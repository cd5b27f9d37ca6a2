-- Texts hold no token and fit a string, and a ledger of which nothing is released stays.
use Rattle.std.proofs.Common.{◌≡◌, ℕ, ◌+◌, true, List, [], ◌∷◌, refl, sym, ◌∙◌, ap, arith}
use Rattle.std.proofs.lemmas.List.{ext_get_or}
use Rattle.fr_shape.specs.declared.shape.Def.{Def}
use Rattle.fr_shape.specs.declared.shape.ScalarKind.{ScalarKind}
use Rattle.fr_shape.specs.declared.value.Value.{Value, fold-roll-Value}
use Rattle.fr_shape.specs.declared.value.Value.TheVariants.{rolls-Text}
use Rattle.fr_shape.specs.declared.value.Value.TheOpen.{Value-F}
use Rattle.fr_shape.specs.Fits.{fits}
use Rattle.fr_shape.specs.Look.{Table, def_of, settled}
use Rattle.fr_shape.specs.Released.{Conserved, Room}
use Rattle.fr_shape.specs.Tokens.{occurs}
use Rattle.fr_shape.specs.Val.{Val, text}
use Rattle.fr_shape.specs.View.{view, view_step}

settled_string : (table : Table) (s : ℕ) → def_of table s ≡ Def.Scalar ScalarKind.String
    → settled table s ≡ Def.Scalar ScalarKind.String
settled_string [] s e = cc
settled_string (shape ∷ shapes) s e = rw e refl

-- a text fits the scalar String
pub text_fits : (table : Table) (s : ℕ) (bytes : List ℕ) → def_of table s ≡ Def.Scalar ScalarKind.String
    → fits table s (text bytes) ≡ true
text_fits table s bytes e = rw (settled_string table s e) refl

-- and so does the value that holds it
pub text_value : (bytes : List ℕ) → view (Value.Text bytes) ≡ text bytes
text_value bytes = ap view (sym (rolls-Text bytes)) ∙ fold-roll-Value Val view_step (Value-F.Text bytes)

pub text_value_fits : (table : Table) (s : ℕ) (bytes : List ℕ) → def_of table s ≡ Def.Scalar ScalarKind.String
    → fits table s (view (Value.Text bytes)) ≡ true
text_value_fits table s bytes e = ap (λ (v : Val). fits table s v) (text_value bytes) ∙ text_fits table s bytes e

-- told by a table, a number and a value that are the same
pub same_text_fits : (table shapes : Table) (s number : ℕ) (v : Val) (bytes : List ℕ) → shapes ≡ table → number ≡ s
    → v ≡ view (Value.Text bytes) → def_of table s ≡ Def.Scalar ScalarKind.String → fits shapes number v ≡ true
same_text_fits table shapes s number v bytes same at is e =
    ap (λ (u : Val). fits shapes number u) (is ∙ text_value bytes) ∙ ap (λ (n : ℕ). fits shapes n (text bytes)) at
    ∙ ap (λ (t : Table). fits t s (text bytes)) same ∙ text_fits table s bytes e

-- holding it too is holding no token
pub with_text : (held : ℕ → ℕ) (v : Val) (bytes : List ℕ) → ((t : ℕ) → held t ≡ 0) → v ≡ view (Value.Text bytes)
    → (t : ℕ) → held t + occurs v t ≡ 0
with_text held v bytes none e t =
    let nothing : occurs v t ≡ 0 = ap (λ (u : Val). occurs u t) (e ∙ text_value bytes) in omega (arith, none t)

-- where a call brings nothing besides what is held, none is there
pub none_brought : (held : ℕ → ℕ) → ((t : ℕ) → held t ≡ 0) → (t : ℕ) → held t + 0 ≡ 0
none_brought held none t = omega (arith, none t)

-- where none is held, no count rises
pub stays : (held left : ℕ → ℕ) (before after : List ℕ) → Conserved held before left after → ((t : ℕ) → held t ≡ 0)
    → after ≡ before
stays held left before after conserved none =
    ext_get_or 0 after before conserved.same_length
    (λ t _. omega (arith, conserved.kept_or_released t, conserved.none_falls t, none t))

-- and none is held afterwards
pub none_left : (held left : ℕ → ℕ) (before after : List ℕ) → Conserved held before left after
    → ((t : ℕ) → held t ≡ 0) → (t : ℕ) → left t ≡ 0
none_left held left before after conserved none t =
    omega (arith, conserved.kept_or_released t, conserved.none_falls t, none t)

-- where none is held, no room is needed
pub no_room : (held : ℕ → ℕ) (ledger : List ℕ) → ((t : ℕ) → held t ≡ 0) → Room held ledger
no_room held ledger none t some = absurd (omega (arith, some, none t))
