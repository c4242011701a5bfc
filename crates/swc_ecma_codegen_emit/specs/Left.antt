-- Which comments are left after an emission.
use Rattle.std.specs.Prelude.{◌≡◌, ◌≢◌, None, ⊤}
use Rattle.std.specs.List.{All}
use Rattle.swc_ecma_codegen_common.specs.declared.positions.Span.{Span}
use Rattle.swc_ecma_codegen_tree.specs.declared.links.AnyNode.{AnyNode}
use Rattle.swc_ecma_codegen_tree.specs.declared.programs.Module.{Module}
use Rattle.swc_ecma_codegen_tree.specs.declared.programs.Program.{Program}
use Rattle.swc_ecma_codegen_tree.specs.declared.programs.Program.TheVariants as programs
use Rattle.swc_ecma_codegen_spans.specs.Spans.{module_item_span}
use Rattle.swc_ecma_codegen_grammar.specs.CommentMaps.{Maps}
use Rattle.swc_ecma_codegen_emit.specs.Answers.{any_answers, place_of}

-- no comment is left before what begins here, unless it begins nowhere
abbrev pub NoneBefore : Span → Maps → Type 0
NoneBefore span maps = span.lo.0 ≢ 0 → maps.leading span.lo.0 ≡ None

-- before no item of a module
abbrev pub NoneBeforeItems : Module AnyNode → Maps → Type 0
NoneBeforeItems n maps = All (λ item. NoneBefore (module_item_span (place_of any_answers) item) maps) n.body.items

-- the same of a program, where that is a module
abbrev pub NoneBeforeBody : Program AnyNode → Maps → Type 0
NoneBeforeBody (programs.Module n) maps = NoneBeforeItems n maps
NoneBeforeBody (programs.Script n) maps = ⊤
