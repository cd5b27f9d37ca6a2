-- What a whole run of the program is asked, and what it says.
use Rattle.std.specs.Prelude.{◌≡◌, ℕ, List, [], ◌∷◌, Option, Some, None, String, string_bytes, codes, if◌then◌else◌}
use Rattle.std.specs.declared.alloc.Global.{Global}
use Rattle.std.specs.Io.KnownBytes.{append_known}
use Rattle.std.specs.Str.{bytes_eq}
use Rattle.fr_script.specs.declared.subcommand.Subcommand.{Subcommand}
use Rattle.fr_script.specs.Reports.{outcome_of, status_of, report_of}

abbrev pub subcommand_named : List ℕ → Option Subcommand
subcommand_named name =
    if bytes_eq name (codes "build") then Some Subcommand.Build else
    if bytes_eq name (codes "plan") then Some Subcommand.Plan else None

-- the subcommand that is asked for: the only one there is
abbrev pub asked : List (String Global) → Option Subcommand
asked [] = None
asked (subcommand ∷ []) = subcommand_named (string_bytes subcommand)
asked (subcommand ∷ other ∷ words) = None

-- the line for any other words
abbrev pub usage_line : List ℕ
usage_line = codes "usage: build | plan | gen N\n"

-- The status is that of what the bytes come to under the subcommand, and their report stands behind what the sink had taken
-- before, where that is told.
pub record Tells (subcommand : Subcommand) (bytes : List ℕ) (ended : ℕ) (before after : Option (List ℕ)) : Type 0 where
  pub status : ended ≡ status_of (outcome_of subcommand bytes)
  pub written : after ≡ append_known before (report_of subcommand bytes)
