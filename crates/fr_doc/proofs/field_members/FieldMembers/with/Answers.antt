use Rattle.fr_doc.specs.FieldMembers.{parts_and}
use Rattle.fr_doc.proofs.FieldParts.{or_none, seen_or}
use Rattle.fr_doc.proofs.field_members.FieldMembers.with.Goals as goal
use Rattle.fr_doc.proofs.field_members.FieldMembers.with.Goals.{in-name, in-shape, in-rename, in-alias, in-text, in-skip, in-flatten, in-proxy, in-format_proxies, in-validators}

pub returns : goal.returns
unfolding parts_and
returns c = elim c.match-key.branch [
  | in-name w ↦ rw (w.self-is, w.or-self.ensures, w.in-name.is) (simp (seen_or, or_none))
  | in-shape w ↦ rw (w.self-is, w.or-self-in-shape.ensures, w.in-shape.is) (simp (seen_or, or_none))
  | in-rename w ↦ rw (w.self-is, w.or-self-in-rename.ensures, w.in-rename.is) (simp (seen_or, or_none))
  | in-alias w ↦ rw (w.self-is, w.or-self-in-alias.ensures, w.in-alias.is) (simp (seen_or, or_none))
  | in-text w ↦ rw (w.self-is, w.or-self-in-text.ensures, w.in-text.is) (simp (seen_or, or_none))
  | in-skip w ↦ rw (w.self-is, w.or-self-in-skip.ensures, w.in-skip.is) (simp (seen_or, or_none))
  | in-flatten w ↦ rw (w.self-is, w.or-self-in-flatten.ensures, w.in-flatten.is) (simp (seen_or, or_none))
  | in-proxy w ↦ rw (w.self-is, w.or-self-in-proxy.ensures, w.in-proxy.is) (simp (seen_or, or_none))
  | in-format_proxies w ↦ rw (w.self-is, w.or-self-in-format_proxies.ensures, w.in-format_proxies.is) (simp (seen_or, or_none))
  | in-validators w ↦ rw (w.self-is, w.or-self-in-validators.ensures, w.in-validators.is) (simp (seen_or, or_none))
]
