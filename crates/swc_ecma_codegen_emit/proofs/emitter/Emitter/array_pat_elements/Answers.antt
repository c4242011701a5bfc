use Rattle.std.proofs.Common.{◌≡◌, ℕ, List, Option, map, ap, ◌∙◌, subst}
use Rattle.swc_ecma_codegen_tree.specs.Links.{PatBox}
use Rattle.swc_ecma_codegen_spans.specs.Spans.{option_span}
use Rattle.swc_ecma_codegen_grammar.specs.ElementPhrases.{last_is_hole}
use Rattle.swc_ecma_codegen_emit.specs.Standing.{Standing, Makes, standing_of}
use Rattle.swc_ecma_codegen_tokens.specs.Lists.{list}
use Rattle.swc_ecma_codegen_emit.specs.Lists.{child_of, if_some_at}
use Rattle.swc_ecma_codegen_emit.specs.Pats.{array_pat_format, pat_place, pat_items}
use Rattle.swc_ecma_codegen_emit.proofs.emitter.Emitter.array_pat_elements.Goals as goal

pub returns : goal.returns
returns g c =
    let a : Standing = standing_of g.S.SourceMapper.lines g.C.Comments.maps g.W.WriteJs.sheet c.args.self.now in
    let b : Standing = standing_of g.S.SourceMapper.lines g.C.Comments.maps g.W.WriteJs.sheet c.list.new.self in
    let format : c.array_pat_format-format.result.0 ≡ array_pat_format (last_is_hole c.args.node.now.elems.items) = c.array_pat_format-format.ensures ∙ ap array_pat_format (c.ends_with_hole.ensures ∙ ap last_is_hole c.deref.ensures.value) in
    let P : ℕ → Type 0 = λ z. Makes (list z c.args.node.now.span (map (child_of (option_span (pat_place g.N.Known.answers)) (if_some_at (pat_items g.N.EmitAt.items))) c.args.node.now.elems.items)) a b in
    let Q : List (Option (PatBox _)) → Type 0 = λ xs. Makes (list c.array_pat_format-format.result.0 c.args.node.now.span (map (child_of (option_span (pat_place g.N.Known.answers)) (if_some_at (pat_items g.N.EmitAt.items))) xs)) a b in
    record { items = subst P format (subst Q c.deref-2.ensures.value c.list.ensures.items) }
