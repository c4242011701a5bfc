-- What is written of bodies of namespaces is what they read as.
use Rattle.std.proofs.Common.{not, false, refl, List, [], ◌∷◌, codes, ℕ, arith}
use Rattle.swc_ecma_codegen_tree.specs.declared.ts_decls.TsModuleBlock.{TsModuleBlock}
use Rattle.swc_ecma_codegen_tree.specs.declared.ts_decls.TsNamespaceBody.{TsNamespaceBody}
use Rattle.swc_ecma_codegen_tree.specs.declared.ts_decls.TsNamespaceBody.TheVariants as bodies
use Rattle.swc_ecma_codegen_tree.specs.declared.ts_decls.TsNamespaceDecl.{TsNamespaceDecl}
use Rattle.swc_ecma_codegen_spans.specs.Spans.{module_item_span, ts_namespace_body_span}
use Rattle.swc_ecma_codegen_grammar.specs.declared.kinds.Kind.TheVariants.{Punctuator}
use Rattle.swc_ecma_codegen_grammar.specs.Tokens as lexical
use Rattle.swc_ecma_codegen_grammar.specs.Tokens.{token_of}
use Rattle.swc_ecma_codegen_grammar.specs.NamespacePhrases as lists
use Rattle.swc_ecma_codegen_grammar.specs.Phrases.{mark}
use Rattle.swc_ecma_codegen_grammar.specs.StmtPhrases.{module_item}
use Rattle.swc_ecma_codegen_grammar.specs.declared.roles.Role.TheVariants.{DottedBody}
use Rattle.swc_ecma_codegen_tokens.specs.Run.{Env, spelling}
use Rattle.swc_ecma_codegen_tokens.specs.Lists.{deeper}
use Rattle.swc_ecma_codegen_tokens.specs.Words.{punct}
use Rattle.swc_ecma_codegen_tokens.proofs.Listing.ListLaws.{IsUndelimited, prints_in_order}
use Rattle.swc_ecma_codegen_tokens.proofs.Reading.Phrased.{Prints, prints_wider, then, after, prints_never, prints_where, prints_mark, mark_spelled, prints_punct, PrintsAt}
use Rattle.swc_ecma_codegen_tokens.proofs.Reading.Printed.{with_room, within_then, punct_within, deeper_within, writes_formatting_space, writes_shallower, MakesAt}
use Rattle.swc_ecma_codegen_tokens.proofs.Commenting.CommentPrints.{writes_leading}
use Rattle.swc_ecma_codegen_tokens.proofs.Filling.Shapes.{loose, ended}
use Rattle.swc_ecma_codegen_emit.specs.declared.nodes.Context.TheVariants.{Plain}
use Rattle.swc_ecma_codegen_emit.specs.Places.{Whole}
use Rattle.swc_ecma_codegen_emit.specs.Answers.{place_of}
use Rattle.swc_ecma_codegen_emit.specs.Modules as modules
use Rattle.swc_ecma_codegen_emit.specs.Namespaces as words
use Rattle.swc_ecma_codegen_emit.specs.Namespaces.{module_block_format}
use Rattle.swc_ecma_codegen_emit.proofs.ExprParts.{ident_prints}
use Rattle.swc_ecma_codegen_emit.proofs.Linked.{Linked}
use Rattle.swc_ecma_codegen_emit.proofs.MarkWords as marks
use Rattle.swc_ecma_codegen_emit.proofs.ModuleParts.{module_item_prints}
use Rattle.swc_ecma_codegen_emit.proofs.TypeWords as type_words

-- `{`, and a level, whatever the settings
brace_within : (env : Env) → MakesAt ended env (λ rest. punct (codes "{") (deeper rest)) (token_of Punctuator (spelling Punctuator (codes "{")) ∷ []) false
brace_within env =
    let t : List ℕ = codes "{" in
    let x : lexical.Token = token_of Punctuator (spelling Punctuator t) in
    with_room 1 1 (omega arith)
    (within_then env (punct t) deeper (x ∷ []) [] (punct_within env t (mark_spelled t marks.left_brace) marks.left_brace.ascii) (deeper_within env))

brace_deeper : (env : Env) → PrintsAt ended env (λ rest. punct (codes "{") (deeper rest)) (mark (codes "{"))
brace_deeper env = prints_mark env (λ rest. punct (codes "{") (deeper rest)) (codes "{") (brace_within env)

items_undelimited : IsUndelimited module_block_format
items_undelimited = record { no_comma = refl; no_bar = refl; no_ampersand = refl }

block_prints : {X : Type 0} (l : Linked X) (n : TsModuleBlock X) → Prints l.env (words.braced_body l.asks l.items (bodies.TsModuleBlock n)) (lists.ts_module_block l.reads n)
unfolding words.braced_body words.namespace_inside words.ts_module_block lists.ts_module_block ts_namespace_body_span
block_prints l n =
    after (writes_leading l.env n.span.lo)
    (then (brace_deeper l.env)
    (then (prints_in_order l.env module_block_format n.span (module_item_span (place_of l.asks)) (modules.module_item l.asks l.items) (module_item l.reads) (λ m. prints_wider loose refl (module_item_prints l m)) items_undelimited refl n.body.items)
    (after (writes_leading l.env n.span.lo) (after (writes_shallower l.env) (prints_punct l.env (codes "}") marks.right_brace)))))

dotted_prints : {X : Type 0} (l : Linked X) (n : TsNamespaceDecl X) → Prints l.env (words.dotted_body l.asks l.items (bodies.TsNamespaceDecl n)) (lists.dotted_namespace l.reads n)
unfolding words.dotted_body lists.dotted_namespace
dotted_prints l n = prints_where (not n.declare) (λ h. then (prints_punct l.env (codes ".") type_words.dot) (then (ident_prints l n.id) (l.law n.body.node.value (Whole Plain) DottedBody)))

pub dotted_body_prints : {X : Type 0} (l : Linked X) (n : TsNamespaceBody X) → Prints l.env (words.dotted_body l.asks l.items n) (lists.dotted_body l.reads n)
unfolding words.dotted_body lists.dotted_body
dotted_body_prints l (bodies.TsModuleBlock n) = after (writes_formatting_space l.env) (block_prints l n)
dotted_body_prints l (bodies.TsNamespaceDecl n) = dotted_prints l n

pub namespace_body_prints : {X : Type 0} (l : Linked X) (n : TsNamespaceBody X) → Prints l.env (words.braced_body l.asks l.items n) (lists.ts_namespace_body l.reads n)
unfolding lists.ts_namespace_body
namespace_body_prints l (bodies.TsModuleBlock n) = block_prints l n
namespace_body_prints l (bodies.TsNamespaceDecl n) = prints_never
