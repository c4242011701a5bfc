-- The comments that `CommentMaps` have.
use Rattle.std.proofs.Common.{◌≡◌, ◌∙◌, ℕ, None, ap}
use Rattle.std.proofs.Math.Path.{fun_ext}
use Rattle.swc_ecma_codegen_grammar.specs.CommentMaps.{Maps}
use Rattle.swc_ecma_codegen_grammar.specs.Comments.{no_maps}
use Rattle.swc_ecma_codegen_grammar.specs.declared.comments.CommentMaps.{CommentMaps}
use Rattle.swc_ecma_codegen_grammar.specs.contracts.comments.CommentMapsComments.TheImpl.{ghosts}

abbrev pub maps_in : CommentMaps → Maps
maps_in maps = ghosts.maps maps

-- maps that have none at any position
pub is_empty : (maps : CommentMaps) → ((pos : ℕ) → (maps_in maps).leading pos ≡ None) → ((pos : ℕ) → (maps_in maps).trailing pos ≡ None) → maps_in maps ≡ no_maps
is_empty maps leading trailing = ap (λ l. record { leading = l; trailing = (maps_in maps).trailing }) (fun_ext leading) ∙ ap (λ t. record { leading = λ pos. None; trailing = t }) (fun_ext trailing)
