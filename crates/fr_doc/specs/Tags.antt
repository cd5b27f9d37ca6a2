-- The keys of one-key objects.
use Rattle.std.specs.Prelude.{ℕ, List, Option, Some, None, codes, if◌then◌else◌}
use Rattle.std.specs.Str.{bytes_eq}
use Rattle.fr_doc.specs.declared.tag.Tag.{Tag}
use Rattle.fr_doc.specs.declared.tag.DynTag.{DynTag}

abbrev pub tag_of : List ℕ → Option Tag
tag_of key =
    if bytes_eq key (codes "n") then Some Tag.Nat else
    if bytes_eq key (codes "i") then Some Tag.Int else
    if bytes_eq key (codes "c") then Some Tag.Char else
    if bytes_eq key (codes "t") then Some Tag.Token else
    if bytes_eq key (codes "v") then Some Tag.Variant else
    if bytes_eq key (codes "s") then Some Tag.Some else
    if bytes_eq key (codes "ok") then Some Tag.Ok else
    if bytes_eq key (codes "err") then Some Tag.Err else
    if bytes_eq key (codes "p") then Some Tag.Pointer else
    if bytes_eq key (codes "l") then Some Tag.List else
    if bytes_eq key (codes "e") then Some Tag.Set else
    if bytes_eq key (codes "m") then Some Tag.Map else
    if bytes_eq key (codes "d") then Some Tag.Dynamic else None

abbrev pub dyn_tag_of : List ℕ → Option DynTag
dyn_tag_of key =
    if bytes_eq key (codes "i") then Some DynTag.Int else
    if bytes_eq key (codes "b") then Some DynTag.Bytes else
    if bytes_eq key (codes "o") then Some DynTag.Object else None
