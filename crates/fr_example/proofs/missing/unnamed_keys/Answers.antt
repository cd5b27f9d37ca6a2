use Rattle.std.proofs.Common.{◌≡◌, ℕ, Bool, cond, not, ◌&&◌, ◌||◌, List, [], ◌∷◌, ◌++◌, map, take, sym, ◌∙◌, ap, ap₂, append-nil, Bor, BTreeSet, nat_cmp}
use Rattle.std.specs.BTreeMap.{is_at}
use Rattle.std.specs.Cmp.Lexicographic.{slice_cmp}
use Rattle.std.specs.List.{filter, list_any}
use Rattle.std.specs.Str.{bytes_eq}
use Rattle.std.proofs.Math.Bool.{or-false}
use Rattle.std.proofs.lemmas.Bool.{not-false, not-true}
use Rattle.std.proofs.lemmas.List.{take_all}
use Rattle.fr_example.specs.declared.missing.Mention.{Mention}
use Rattle.fr_example.specs.Mentions.{is_named}
use Rattle.fr_example.specs.Missing.{each_once}
use Rattle.fr_example.proofs.ToldOnce.{has_more, has_text, keys_more, named_more, seen_more, told_more}
use Rattle.fr_example.proofs.missing.unnamed_keys.Goals as goal
use Rattle.fr_example.proofs.missing.unnamed_keys.Goals.{then-mention+in_ok-insert, else-mention, then-branch+in_ok-new+in_ok-push, else-branch}

pub loop-mention-init : goal.loop-mention-init
loop-mention-init c = λ q. ap (λ (keys : List (Bor (List ℕ))). list_any (is_at (λ (k : Bor (List ℕ)). slice_cmp nat_cmp q.now k.now)) keys) c.new-seen.ensures.empty

pub loop-mention-preserved : goal.loop-mention-preserved
loop-mention-preserved c =
    let mentions = c.args.mentions.now in
    let i = c.loop-mention.mention-index in
    let mention = c.mention-item.result in
    λ q.
    let more = named_more mentions i mention q.now c.loop-mention-test.true c.mention-item.is in
    elim c.if-mention.branch [
      | then-mention+in_ok-insert w ↦
          ap (λ (s : BTreeSet (Bor (List ℕ))). has_text s q) w.seen-is
          ∙ has_more c.loop-mention.seen w.insert.new.self w.as_str.result mention.key q w.as_str.ensures.bytes (w.in_ok-insert.ensures.updates.0 q)
          ∙ ap₂ (λ (b d : Bool). b || (d && bytes_eq mention.key q.now)) (c.loop-mention.invariant q) (sym w.if-mention.true)
          ∙ sym more
      | else-mention w ↦
          ap (λ (s : BTreeSet (Bor (List ℕ))). has_text s q) w.seen-is
          ∙ c.loop-mention.invariant q
          ∙ sym (or-false (is_named (take i mentions) q.now))
          ∙ ap (λ (d : Bool). is_named (take i mentions) q.now || (d && bytes_eq mention.key q.now)) (sym w.if-mention.false)
          ∙ sym more
    ]

pub loop-mention-2-init : goal.loop-mention-2-init
loop-mention-2-init c =
    record {
      seen =
          λ q.
          c.loop-mention.invariant q
          ∙ ap (λ (ms : List Mention). is_named ms q.now) (take_all c.loop-mention.mention-index c.args.mentions.now c.loop-mention-test.false)
          ∙ sym (or-false (is_named c.args.mentions.now q.now))
          ∙ ap (λ (keys : List (List ℕ)). is_named c.args.mentions.now q.now || list_any (λ (key : List ℕ). bytes_eq key q.now) keys)
          (sym c.new-keys.ensures.empty);
      keys = c.new-keys.ensures.empty;
    }

pub loop-mention-2-preserved : goal.loop-mention-2-preserved
loop-mention-2-preserved c =
    let mentions = c.args.mentions.now in
    let i = c.loop-mention-2.mention-index in
    let mention = c.mention-item-in-loop-mention-2.result in
    let keys = c.loop-mention-2.keys in
    let had = has_text c.loop-mention-2.seen c.as_str-key.result in
    let is_seen : (is_named mentions mention.key || list_any (λ (k : List ℕ). bytes_eq k mention.key) keys) ≡ had
    = ap (λ (key : List ℕ). is_named mentions key || list_any (λ (k : List ℕ). bytes_eq k key) keys) (sym c.as_str-key.ensures.bytes)
    ∙ sym (c.loop-mention-2.invariant.seen c.as_str-key.result) in
    let told : c.if-branch.keys ≡ keys ++ cond had [] (mention.key ∷ [])
    = elim c.if-branch.branch [
      | then-branch+in_ok-new+in_ok-push w ↦
          w.keys-is ∙ w.in_ok-push.ensures.ok
          ∙ ap (λ (key : List ℕ). keys ++ key ∷ []) (w.in_ok-new.ensures.copy ∙ c.as_str-key.ensures.bytes)
          ∙ ap (λ (b : Bool). keys ++ cond b [] (mention.key ∷ [])) (sym (not-true had (sym c.in_ok-insert-2.ensures.added ∙ w.if-branch.true)))
      | else-branch w ↦
          w.keys-is ∙ sym (append-nil keys)
          ∙ ap (λ (b : Bool). keys ++ cond b [] (mention.key ∷ [])) (sym (not-false had (sym c.in_ok-insert-2.ensures.added ∙ w.if-branch.false)))
    ] in
    record {
      seen =
          λ q.
          has_more c.loop-mention-2.seen c.insert-in-loop-mention-2.new.self c.as_str-key.result mention.key q c.as_str-key.ensures.bytes
          (c.in_ok-insert-2.ensures.updates.0 q)
          ∙ ap (λ (b : Bool). b || bytes_eq mention.key q.now) (c.loop-mention-2.invariant.seen q)
          ∙ seen_more (λ (k : List ℕ). is_named mentions k) keys mention.key q.now had is_seen
          ∙ ap (λ (ks : List (List ℕ)). is_named mentions q.now || list_any (λ (k : List ℕ). bytes_eq k q.now) ks) (sym told);
      keys =
          told ∙ ap (λ (b : Bool). keys ++ cond b [] (mention.key ∷ [])) (sym is_seen)
          ∙ ap
          (λ (ks : List (List ℕ)).
          ks ++ cond (is_named mentions mention.key || list_any (λ (k : List ℕ). bytes_eq k mention.key) ks) [] (mention.key ∷ []))
          c.loop-mention-2.invariant.keys
          ∙ sym (told_more (λ (k : List ℕ). is_named mentions k) (map (λ (m : Mention). m.key) (take i mentions)) mention.key)
          ∙ ap (λ (ks : List (List ℕ)). each_once (filter (λ (k : List ℕ). not (is_named mentions k)) ks))
          (sym (keys_more mentions i mention c.loop-mention-2-test.true c.mention-item-in-loop-mention-2.is));
    }

pub returns : goal.returns
returns c =
    c.loop-mention-2.invariant.keys
    ∙ ap
    (λ (ms : List Mention).
    each_once (filter (λ (key : List ℕ). not (is_named c.args.mentions.now key)) (map (λ (m : Mention). m.key) ms)))
    (take_all c.loop-mention-2.mention-index c.args.mentions.now c.loop-mention-2-test.false)
