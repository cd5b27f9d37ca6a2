use Rattle.std.proofs.Common.{◌≡◌, ℕ, ◌<◌, true, ◌∷◌, ◌++◌, [], length, map, get_or, subst, sym, ap, ◌∙◌, arith}
use Rattle.std.proofs.lemmas.List.{map_push, take_all, length-map}
use Rattle.fr_values.specs.Common.{ByContents, IsPermutation, IsRun, has_number, view}
use Rattle.fr_values.proofs.Indexed.{number_at, keyed_of, keyed_more, with_value, sorted_run}
use Rattle.fr_values.proofs.value_index.sorted.Goals as goal

pub loop-number-init : goal.loop-number-init
loop-number-init c = ap (map keyed_of) c.in_ok-keyed.ensures.items

pub bounds-values-number : goal.bounds-values-number
bounds-values-number c =
    let numbers = c.args.numbers.now in
    c.requires.below (get_or numbers c.loop-number.number-index 0) (number_at numbers c.loop-number.number-index c.loop-number-test.true)

pub loop-number-preserved : goal.loop-number-preserved
loop-number-preserved c =
    let numbers = c.args.numbers.now in
    let values = c.args.values.now in
    let i = c.loop-number.number-index in
    let within : get_or numbers i 0 < length values = c.requires.below (get_or numbers i 0) (number_at numbers i c.loop-number-test.true) in
    let pushed : map keyed_of c.push.new.self.items ≡ map keyed_of c.loop-number.keyed.items ++ (view c.index-values-number.result, get_or numbers i 0) ∷ [] =
    ap (map keyed_of) c.in_ok-push.ensures.items ∙ map_push keyed_of c.loop-number.keyed.items _ in
    keyed_more values numbers i c.index-values-number.result (map keyed_of c.loop-number.keyed.items) (map keyed_of c.push.new.self.items) c.loop-number-test.true within c.index-values-number.is pushed c.loop-number.invariant

pub returns : goal.returns
returns c =
    let numbers = c.args.numbers.now in
    let vs = map view c.args.values.now in
    let keyed = c.loop-number.keyed.items in
    let same : map keyed_of keyed ≡ map (with_value vs) numbers = c.loop-number.invariant ∙ ap (map (with_value vs)) (take_all c.loop-number.number-index numbers c.loop-number-test.false) in
    let all : c.loop-entry.run.items ≡ map (λ (e : ByContents × ℕ). e.1) c.sort.new.self.items =
    c.loop-entry.invariant ∙ ap (map (λ (e : ByContents × ℕ). e.1)) (take_all c.loop-entry.entry-index c.as_slice-entry-items.result.now c.loop-entry-test.false ∙ c.as_slice-entry-items.ensures.value) in
    let below : (n : ℕ) → has_number numbers n ≡ true → n < length vs = λ n has. omega (arith, c.requires.below n has, length-map c.args.values.now view) in
    let both = sorted_run vs numbers keyed c.sort.new.self.items below same c.sort.ensures.permutation
    c.in_ok-sort.ensures.sorted in
    record { moved = subst (IsPermutation numbers) (sym all) both.0; run = subst (IsRun vs) (sym all) both.1 }
