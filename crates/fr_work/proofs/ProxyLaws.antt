-- What the calls that begin a conversion through a proxy come to, or why they are refused.
use Rattle.std.proofs.Common.{◌≡◌, ℕ, List, Option, None, Ok, refl, sym, ◌∙◌, ap}
use Rattle.fr_work.specs.Common.{Call, Change, ComesTo, Meanings, Move, Site, Tree, one_more_call, shape_at, step}
use Rattle.fr_shape.specs.declared.shape.ProxyDef.{ProxyDef}
use Rattle.fr_model.specs.Conversions.{proxy_at}
use Rattle.fr_model.specs.Step.{begins_if_proxied}
use Rattle.fr_model.specs.Tree.{cursor_field}
use Rattle.fr_work.specs.Sources.{BeginsFromShape}
use Rattle.fr_work.proofs.DecidingLaws.{remains}
use Rattle.fr_moves.specs.TreeLaws.{unchanged}

-- By the shape of the place.
module _ {site : Site} {call : Call} {format : Option (List ℕ)} (says : BeginsFromShape site call format) where
  shape_means : (found : Option ProxyDef)
      → proxy_at site.shapes (shape_at site) (cursor_field site.shapes site.root site.state) format ≡ found → (hooks : Meanings)
      → step hooks site.shapes site.root site.state call ≡ Ok (begins_if_proxied site.shapes (shape_at site) site.state found)
  shape_means found is hooks =
      says.means hooks ∙ ap (λ (p : Option ProxyDef). Ok (begins_if_proxied site.shapes (shape_at site) site.state p)) is

  -- where there is none, nothing comes of it
  pub shape_stays : proxy_at site.shapes (shape_at site) (cursor_field site.shapes site.root site.state) format ≡ None
      → ComesTo site call (Move.Stay Change.Nothing)
  shape_stays none =
      remains site call Change.Nothing says.nothing (λ t. refl) tt (λ hooks.
      shape_means None none hooks
      ∙ ap (λ (t : Tree). Ok (record site.state { tree = t; calls = one_more_call site.state.calls }))
      (sym (unchanged site.state.cursor site.state.tree)))
