-- Whether a line ends before a node, by what the maps hold.
use Rattle.std.proofs.Common.{◌≡◌, refl, sym, ap, ◌∙◌, subst, false, not, List, Option, Some, None}
use Rattle.swc_ecma_codegen_grammar.specs.CommentMaps.{Maps}
use Rattle.swc_ecma_codegen_grammar.specs.declared.comments.Comment.{Comment}
use Rattle.swc_ecma_codegen_common.specs.declared.positions.Span.{Span}
use Rattle.swc_ecma_codegen_grammar.specs.CommentMaps.{listed}
use Rattle.swc_ecma_codegen_grammar.specs.Comments.{maps_in, comments_at, remarks_of, all_tame}
use Rattle.swc_ecma_codegen_emit.specs.Commented.{breaks_at}

-- there are no comments at all
pub without : {C : Type 0} (m : C → Maps) (notes : Option C) (span : Span) → notes ≡ None → false ≡ breaks_at span (maps_in m notes)
unfolding breaks_at maps_in comments_at listed remarks_of all_tame
without m notes span e = subst (λ z. false ≡ breaks_at span (maps_in m z)) (sym e) refl

there : {C : Type 0} (m : C → Maps) (notes : Option C) (all : C) (span : Span) (x : Option (List Comment)) → notes ≡ Some all → x ≡ (m all).leading span.lo.0 → not (all_tame (remarks_of (listed x))) ≡ breaks_at span (maps_in m notes)
unfolding breaks_at maps_in comments_at
there m notes all span x e h = ap (λ z. not (all_tame (remarks_of (listed z)))) h ∙ ap (λ z. breaks_at span (maps_in m z)) (sym e)

-- there is none there
pub unlisted : {C : Type 0} (m : C → Maps) (notes : Option C) (all : C) (span : Span) → notes ≡ Some all → None ≡ (m all).leading span.lo.0 → false ≡ breaks_at span (maps_in m notes)
unfolding listed remarks_of all_tame
unlisted m notes all span e h = there m notes all span None e h

-- there are some
pub listed_there : {C : Type 0} (m : C → Maps) (notes : Option C) (all : C) (span : Span) (cs : List Comment) → notes ≡ Some all → Some cs ≡ (m all).leading span.lo.0 → not (all_tame (remarks_of cs)) ≡ breaks_at span (maps_in m notes)
unfolding listed
listed_there m notes all span cs e h = there m notes all span (Some cs) e h
