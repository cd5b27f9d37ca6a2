-- What was decided of a call is that call of the builder.
use Rattle.std.proofs.Common.{◌≡◌, ℕ, List, Result, Ok, Err, IfOk, OnErr, OnOk, inl, inr, refl, ap, subst, arith, sym, ◌∙◌, ◌+◌}
use Rattle.fr_partial.specs.Common.{Builder, Call, Decides, IsMeant, Meanings, Move, ReflectErrorKind, RoseBy, Site, Room, Room_same}
use Rattle.fr_model.specs.Scripts.{brings}
use Rattle.fr_partial.specs.Builder.{site_of}
use Rattle.fr_work.specs.Deciding.{DecidesBy, WasDecided, carries}

-- a call that brings nothing has nothing to release as it is decided
pub nothing_spent : (call : Call) → ((t : ℕ) → brings call t ≡ 0) → (decided : Result Move ReflectErrorKind) (ledger : List ℕ)
    → WasDecided call decided ledger ledger
nothing_spent call none (Ok move) ledger = refl
nothing_spent call none (Err kind) ledger = record { same_length = refl; each = λ t. omega (arith, none t) }

-- the tokens that a call brings, where they are released as it is refused alone
pub was_decided : (call : Call) (decided : Result Move ReflectErrorKind) (old now : List ℕ) → OnOk decided (now ≡ old)
    → OnErr decided (RoseBy (brings call) old now) → WasDecided call decided old now
was_decided call (Ok move) old now same rose = same
was_decided call (Err kind) old now same rose = rose

some_call : (site : Site) (call : Call) (decided : Result Move ReflectErrorKind) → Decides site call decided
    → IfOk decided (IsMeant site)
some_call site call (Ok move) comes = (call, comes)
some_call site call (Err kind) refused = tt

carries_nothing : (site : Site) (call : Call) → ((t : ℕ) → brings call t ≡ 0) → (decided : Result Move ReflectErrorKind)
    → Decides site call decided → (t : ℕ) → carries decided t ≡ 0
carries_nothing site call none (Ok move) comes t = sym (comes.same_tokens t) ∙ none t
carries_nothing site call none (Err kind) refused t = refl

-- what is decided whatever the hooks mean is decided as these mean
decides_by : (hooks : Meanings) (site : Site) (call : Call) (decided : Result Move ReflectErrorKind) → Decides site call decided
    → DecidesBy hooks site call decided
decides_by hooks site call (Ok move) comes =
    record { same_tokens = comes.same_tokens; late = comes.late; means = comes.means hooks }
decides_by hooks site call (Err kind) (inl refused) = inl (refused.0, refused.1 hooks)
decides_by hooks site call (Err kind) (inr wanted) = inr (wanted.0, inl (wanted.1 hooks))

module _ {H : Type 0} {h : H} {before : Builder H} {work : Site}
    (is : ◌≡◌ {A = Builder H} (record { shapes = work.shapes; hooks = h; root = work.root; plan = work.plan; state = work.state }) before)
    (call : Call) (decided : Result Move ReflectErrorKind) (told : Decides work call decided) where
  -- what was decided by what a builder works with was decided of the builder
  decided_here : Decides (site_of before) call decided
  decided_here = subst (λ (seen : Site). Decides seen call decided) (ap site_of is) told

  pub decided_of : (hooks : Meanings) → DecidesBy hooks (site_of before) call decided
  decided_of hooks = decides_by hooks (site_of before) call decided decided_here

  -- a call that brings nothing carries nothing
  pub room_of : ((t : ℕ) → brings call t ≡ 0) → (held : ℕ → ℕ) (ledger : List ℕ) → Room held ledger
      → Room (λ t. held t + carries decided t) ledger
  room_of none held ledger =
      Room_same held (λ t. held t + carries decided t) ledger
      (λ t. let light = carries_nothing work call none decided told t in omega (arith, light))

  -- a call to which some move was decided is meant by a call
  pub meant_of : IfOk decided (IsMeant (site_of before))
  meant_of = some_call (site_of before) call decided decided_here

  -- so one that brings nothing owes what any owes of which that was decided
  pub called : (hooks : Meanings) → ((t : ℕ) → brings call t ≡ 0) → {Owes : Call → List ℕ → Type 0} (ledger : List ℕ)
      → ((any : Call) → DecidesBy hooks (site_of before) any decided → (old : List ℕ) → WasDecided any decided old ledger → Owes any old)
      → Owes call ledger
  called hooks none ledger owes = owes call (decided_of hooks) ledger (nothing_spent call none decided ledger)
