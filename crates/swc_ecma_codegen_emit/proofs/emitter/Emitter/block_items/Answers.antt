use Rattle.std.proofs.Common.{◌≡◌, ℕ, List, map, subst}
use Rattle.swc_ecma_codegen_tree.specs.declared.programs.ModuleItem.{ModuleItem}
use Rattle.swc_ecma_codegen_emit.specs.Standing.{Standing, Makes, standing_of}
use Rattle.swc_ecma_codegen_tokens.specs.Lists.{list}
use Rattle.swc_ecma_codegen_emit.specs.Lists.{child_of}
use Rattle.swc_ecma_codegen_spans.specs.Spans.{module_item_span}
use Rattle.swc_ecma_codegen_emit.specs.Answers.{place_of}
use Rattle.swc_ecma_codegen_emit.specs.Modules.{module_item}
use Rattle.swc_ecma_codegen_emit.specs.Namespaces.{module_block_format}
use Rattle.swc_ecma_codegen_emit.proofs.emitter.Emitter.block_items.Goals as goal

pub returns : goal.returns
returns g c =
    let a : Standing = standing_of g.S.SourceMapper.lines g.C.Comments.maps g.W.WriteJs.sheet c.args.self.now in
    let b : Standing = standing_of g.S.SourceMapper.lines g.C.Comments.maps g.W.WriteJs.sheet c.list.new.self in
    let format : c.module_block_format.result.0 ≡ module_block_format = c.module_block_format.ensures in
    let P : ℕ → Type 0 = λ z. Makes (list z c.args.node.now.span (map (child_of (module_item_span (place_of g.N.Known.answers)) (λ m place. module_item g.N.Known.answers g.N.EmitAt.items m)) c.args.node.now.body.items)) a b in
    let Q : List (ModuleItem _) → Type 0 = λ xs. Makes (list c.module_block_format.result.0 c.args.node.now.span (map (child_of (module_item_span (place_of g.N.Known.answers)) (λ m place. module_item g.N.Known.answers g.N.EmitAt.items m)) xs)) a b in
    record { items = subst P format (subst Q c.deref.ensures.value c.list.ensures.items) }
