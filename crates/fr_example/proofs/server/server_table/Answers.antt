use Rattle.std.proofs.Common.{◌≡◌, ◌++◌, ◌∷◌, [], List, refl, sym, ◌∙◌, subst}
use Rattle.fr_shape.specs.Checked.{IsChecked}
use Rattle.fr_shape.specs.Look.{Table}
use Rattle.fr_shape.specs.Numbered.{IsNumbered}
use Rattle.fr_example.specs.Servers.{server_table}
use Rattle.fr_example.proofs.ServerTable.{server_checked, server_found, server_numbered}
use Rattle.fr_example.proofs.server.server_table.Goals as goal
use Rattle.fr_example.proofs.server.server_table.Goals.{After-new}

-- four items that are appended in turn
appended : {A : Type 0} {none one two three four : List A} {a b c d : A} → none ≡ [] → one ≡ none ++ a ∷ [] → two ≡ one ++ b ∷ []
    → three ≡ two ++ c ∷ [] → four ≡ three ++ d ∷ [] → four ≡ a ∷ b ∷ c ∷ d ∷ []
appended empty first second third fourth = rw fourth (rw third (rw second (rw first (rw empty refl))))

-- and each of them is known
all_four : {A : Type 0} {a b c d e f g h : A} → a ≡ e → b ≡ f → c ≡ g → d ≡ h → a ∷ b ∷ c ∷ d ∷ [] ≡ e ∷ f ∷ g ∷ h ∷ []
all_four first second third fourth = cc

-- the four shapes
made : (c : After-new) → c.new.result ≡ server_table
made c =
    c.new.ensures.shapes
    ∙ appended c.new-shapes.ensures.empty c.in_ok-push.ensures.ok c.in_ok-push-2.ensures.ok c.in_ok-push-3.ensures.ok
    c.in_ok-push-4.ensures.ok
    ∙ all_four c.in_ok-scalar.ensures.described c.in_ok-scalar-2.ensures.described c.in_ok-list_of.ensures.described
    c.in_ok-struct_of.ensures.described

pub returns-clause-table : goal.returns-clause-table
returns-clause-table c = made c

pub returns-clause-numbered : goal.returns-clause-numbered
returns-clause-numbered c = subst (λ (table : Table). IsNumbered table) (sym (made c)) server_numbered

pub returns-clause-checked : goal.returns-clause-checked
returns-clause-checked c = subst (λ (table : Table). IsChecked table) (sym (made c)) server_checked

pub returns-clause-found : goal.returns-clause-found
returns-clause-found c = server_found c.new.result (made c)
