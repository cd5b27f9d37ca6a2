use Rattle.std.proofs.Common.{◌≡◌, ℕ, Bor, List, not, ◌||◌, map, take}
use Rattle.std.specs.List.{filter, list_any}
use Rattle.std.specs.Str.{bytes_eq}
use Rattle.fr_example.specs.declared.missing.Mention.{Mention}
use Rattle.fr_example.specs.Mentions.{is_named}
use Rattle.fr_example.specs.Missing.{each_once}
use Rattle.fr_example.proofs.ToldOnce.{has_text}
use Rattle.fr_example.proofs.missing.unnamed_keys.Given as goal

-- The set has the keys that the mentions so far name.
abbrev pub invariant-loop-mention : goal.invariant-loop-mention
invariant-loop-mention l = (q : Bor (List ℕ)) → has_text l.seen q ≡ is_named (take l.mention-index l.mentions) q.now

-- It has all of those, and the keys that were told.
abbrev pub invariant-loop-mention-2 : goal.invariant-loop-mention-2
invariant-loop-mention-2 l =
    record {
      seen :
          (q : Bor (List ℕ)) → has_text l.seen q ≡ (is_named l.mentions q.now || list_any (λ (key : List ℕ). bytes_eq key q.now) l.keys);
      keys :
          l.keys
          ≡ each_once
          (filter (λ (key : List ℕ). not (is_named l.mentions key)) (map (λ (m : Mention). m.key) (take l.mention-index l.mentions)));
    }
