use Rattle.std.proofs.Common.{◌≡◌, List, Some, None, IsSome, false, sym, ◌∙◌, ap}
use Rattle.fr_frame.specs.Common.{Cell, Err, IfErr, Meanings, Ok, OnErr, OnOk, Question, ReflectErrorKind, Result, Table, Tracker, ask, fields_of_tracker, first_asked, is_conversion, missing_value, shape_of, values_of, ℕ}
use Rattle.fr_frame.proofs.AskLaws.{is_marks, others_lack, others_met, others_there}
use Rattle.fr_frame.proofs.lacking.test_others.Goals as goal

-- what says whether all are there answers what is asked
all_asked : {X : Type 0} (question : Question) (s : ℕ) (cells : List Cell) (result : Result X ReflectErrorKind)
    → is_marks question ≡ false
    → OnOk result (IsSome (values_of cells)) → OnErr result (values_of cells ≡ None)
    → IfErr result (λ kind. kind ≡ missing_value s)
    → OnOk result ((means : Meanings) (table : Table) (tracker : Tracker) → fields_of_tracker tracker ≡ None
    → is_conversion tracker ≡ false → first_asked (ask question means table s tracker) 0 cells ≡ None)
    × IfErr result (λ kind. (means : Meanings) (table : Table) (tracker : Tracker) → fields_of_tracker tracker ≡ None
    → is_conversion tracker ≡ false → first_asked (ask question means table s tracker) 0 cells ≡ Some kind)
all_asked question s cells (Ok x) all there none is =
    ((λ means table tracker others plain. others_there means table s tracker others plain question cells there), tt)
all_asked question s cells (Err kind) all there none is =
    (tt, λ means table tracker others plain. others_lack means table s tracker others plain question all cells none ∙ ap Some (sym is))

pub returns-in-Marks-clause-passing : goal.returns-in-Marks-clause-passing
returns-in-Marks-clause-passing c means table tracker others plain =
    ap (λ (question : Question). first_asked (ask question means table (shape_of c.args.plan.now c.args.node) tracker) 0 c.args.children.now)
    c.in-Marks.is ∙ others_met means table (shape_of c.args.plan.now c.args.node) tracker others plain 0 c.args.children.now

pub returns-in-Strict : goal.returns-in-Strict
returns-in-Strict c =
    let told = c.test_all_there.ensures in
    let both = all_asked c.args.question (shape_of c.args.plan.now c.args.node) c.args.children.now c.test_all_there.result
    (ap is_marks c.in-Strict.is) told.passing told.absent told.failing in
    record { passing = both.0; failing = both.1 }

pub returns-in-There : goal.returns-in-There
returns-in-There c =
    let told = c.test_all_there-in-There.ensures in
    let both = all_asked c.args.question (shape_of c.args.plan.now c.args.node) c.args.children.now
    c.test_all_there-in-There.result (ap is_marks c.in-There.is) told.passing told.absent told.failing in
    record { passing = both.0; failing = both.1 }
