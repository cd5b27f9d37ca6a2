use Rattle.std.proofs.Common.{◌≡◌, List, slice_range, take, ap, sym, ◌∙◌}
use Rattle.fr_values.specs.Common.{Value, view}
use Rattle.fr_values.proofs.IndexedChildren.{count_is, found_behind, found_between, found_first, there_of}
use Rattle.fr_values.proofs.children.Children.has_same.Goals as goal
use Rattle.fr_values.proofs.children.Children.has_same.Goals.{After-is_some, After-is_among}

-- what the index tells of the first ones
by_index : (c : After-is_some) → c.is_some.result ≡ there_of (view c.args.value.now) (take c.len-indexed.result c.self.inside.parts)
by_index c =
    c.is_some.ensures ∙ c.find.ensures.there
    ∙ ap (λ (vs : List Value). there_of (view c.args.value.now) (take c.len-indexed.result vs)) c.in-Some.ensures

-- and looking at them of the other ones of the base
by_look : (c : After-is_among) → c.is_among.result
    ≡ there_of (view c.args.value.now) (slice_range c.self.inside.parts c.len-indexed.result c.len-count.result)
by_look c =
    c.is_among.ensures
    ∙ ap (λ (vs : List Value). there_of (view c.args.value.now) (slice_range vs c.len-indexed.result c.len-count.result)) c.in-Some.ensures

pub returns-then-is_some : goal.returns-then-is_some
returns-then-is_some c =
    sym (found_first c.self.inside.given c.self.inside.parts c.self.inside.base c.self.inside.index c.args.self.now
    (view c.args.value.now) c.len-indexed.result c.len-count.result c.self.invariant c.self.view_is
    (count_is c.self.inside.given c.self.inside.parts c.self.inside.base c.self.inside.index c.len-indexed.result c.self.invariant
    c.len-indexed.ensures.count) c.len-count.ensures.count
    (sym (by_index (goal.at.returns-then-is_some c).After-is_some) ∙ c.if-is_some.true))

pub returns-then-is_among : goal.returns-then-is_among
returns-then-is_among c =
    c.if-is_among.true ∙ sym (found_between c.self.inside.given c.self.inside.parts c.self.inside.base c.self.inside.index c.args.self.now
    (view c.args.value.now) c.len-indexed.result c.len-count.result c.self.invariant c.self.view_is
    (count_is c.self.inside.given c.self.inside.parts c.self.inside.base c.self.inside.index c.len-indexed.result c.self.invariant
    c.len-indexed.ensures.count) c.len-count.ensures.count
    (sym (by_index (goal.at.returns-then-is_among c).After-is_some) ∙ c.if-is_some.false)
    (sym (by_look (goal.at.returns-then-is_among c).After-is_among) ∙ c.if-is_among.true))

pub returns-else-is_among : goal.returns-else-is_among
returns-else-is_among c =
    c.has_same_from-else-is_among.ensures ∙ sym (found_behind c.self.inside.given c.self.inside.parts c.self.inside.base c.self.inside.index c.args.self.now
    (view c.args.value.now) c.len-indexed.result c.len-count.result c.self.invariant c.self.view_is
    (count_is c.self.inside.given c.self.inside.parts c.self.inside.base c.self.inside.index c.len-indexed.result c.self.invariant
    c.len-indexed.ensures.count) c.len-count.ensures.count
    (sym (by_index (goal.at.returns-else-is_among c).After-is_some) ∙ c.if-is_some.false)
    (sym (by_look (goal.at.returns-else-is_among c).After-is_among) ∙ c.if-is_among.false))
