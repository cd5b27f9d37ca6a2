-- Why a server is not built.
use Rattle.std.specs.Prelude.{◌≡◌, [], None, ⊤}
use Rattle.fr_shape.specs.declared.error.PlanError.{PlanError}
use Rattle.fr_shape.specs.declared.error.ReflectErrorKind.{ReflectErrorKind}
use Rattle.fr_shape.specs.declared.shape.FieldRef.{FieldRef}
use Rattle.fr_facet.specs.declared.facet.FacetFault.{FacetFault}
use Rattle.fr_work.specs.declared.reflect_error.ReflectError.{ReflectError}
use Rattle.fr_example.specs.declared.lead.Unbuilt.{Unbuilt}

-- the field of a server that is its host
abbrev pub host_field : FieldRef
host_field = record { shape = record { 0 = 3 }; variant = None; index = 0 }

-- the builder missed the host when it was to complete the root; or memory ran out
abbrev pub MissesHost : Unbuilt → Type 0
MissesHost Unbuilt.OutOfMemory = ⊤
MissesHost (Unbuilt.Refused error) = (error.kind ≡ ReflectErrorKind.UninitializedField host_field) × (error.path ≡ [])
MissesHost Unbuilt.Unsuited = ⊥

-- How the errors of what is called become this one

abbrev pub refused_for : ReflectErrorKind → ReflectError → Unbuilt
refused_for ReflectErrorKind.OutOfMemory error = Unbuilt.OutOfMemory
refused_for kind error = Unbuilt.Refused error

-- an error of the builder
abbrev pub refused : ReflectError → Unbuilt
refused error = refused_for error.kind error

-- a plan that there isn't
abbrev pub without_plan : PlanError → Unbuilt
without_plan (PlanError.Alloc error) = Unbuilt.Unsuited
without_plan PlanError.OutOfMemory = Unbuilt.OutOfMemory

-- a value that isn't read as an element of the type
abbrev pub not_read : FacetFault → Unbuilt
not_read FacetFault.Mismatch = Unbuilt.Unsuited
not_read FacetFault.OutOfMemory = Unbuilt.OutOfMemory
