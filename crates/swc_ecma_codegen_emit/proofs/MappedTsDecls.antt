-- What is written of declarations of TypeScript sees what links hold through `asks` and `items` alone.
use Rattle.std.proofs.Common.{◌≡◌, refl, ap, List, [], ◌∷◌, map, codes, Option, Some, None, Box, Global}
use Rattle.swc_ecma_codegen_common.specs.declared.positions.Span.{Span}
use Rattle.swc_ecma_codegen_tree.specs.declared.links.AnyNode.{map-AnyNode}
use Rattle.swc_ecma_codegen_tree.specs.declared.links.AnyNode.TheOpen as nodes
use Rattle.swc_ecma_codegen_tree.specs.Links.{TsNamespaceBodyBox, TsTypeParamDeclBox}
use Rattle.swc_ecma_codegen_tree.specs.declared.parts.StmtPart.TheVariants as stmt_parts
use Rattle.swc_ecma_codegen_tree.specs.declared.decls.Decl.TheVariants as decls
use Rattle.swc_ecma_codegen_tree.specs.declared.ts_decls.TsEnumDecl.{TsEnumDecl}
use Rattle.swc_ecma_codegen_tree.specs.declared.ts_decls.TsEnumMember.{TsEnumMember}
use Rattle.swc_ecma_codegen_tree.specs.declared.ts_decls.TsExprWithTypeArgs.{TsExprWithTypeArgs}
use Rattle.swc_ecma_codegen_tree.specs.declared.ts_decls.TsInterfaceDecl.{TsInterfaceDecl}
use Rattle.swc_ecma_codegen_tree.specs.declared.ts_decls.TsModuleDecl.{TsModuleDecl}
use Rattle.swc_ecma_codegen_tree.specs.declared.ts_decls.TsTypeAliasDecl.{TsTypeAliasDecl}
use Rattle.swc_ecma_codegen_grammar.proofs.MappedTsDecls.{by_args, by_value}
use Rattle.swc_ecma_codegen_tokens.specs.Run.{Plan, Part}
use Rattle.swc_ecma_codegen_tokens.specs.Words.{keyword, punct, space, formatting_space, leading_comments}
use Rattle.swc_ecma_codegen_emit.specs.declared.nodes.Context.TheVariants.{Plain}
use Rattle.swc_ecma_codegen_emit.specs.Places.{Place, Whole}
use Rattle.swc_ecma_codegen_emit.specs.Annotations.{type_args, type_params, word_before}
use Rattle.swc_ecma_codegen_emit.specs.Answers.{Answers}
use Rattle.swc_ecma_codegen_emit.specs.Decls.{whole_decl, decl}
use Rattle.swc_ecma_codegen_emit.specs.Exprs.{ident}
use Rattle.swc_ecma_codegen_emit.specs.Lists.{child_of}
use Rattle.swc_ecma_codegen_emit.specs.Parts.{stmt_part}
use Rattle.swc_ecma_codegen_emit.specs.Pats.{initializer}
use Rattle.swc_ecma_codegen_emit.specs.Tree.{node_items}
use Rattle.swc_ecma_codegen_emit.specs.TsDecls.{declare_word, ts_expr_with_type_args, extended_place, extended_format, some_extends, extends_clause, ts_interface_decl, ts_type_alias_decl, ts_enum_member, enum_body, ts_enum_decl, module_tail, ts_module_decl, enum_member_place, enum_format}
use Rattle.swc_ecma_codegen_emit.proofs.MappedPats.{children_mapped}

-- ---- interfaces and aliases

pub extends_mapped : {X Y : Type 0} (e : TsExprWithTypeArgs X → TsExprWithTypeArgs Y) (items : Y → Place → Part) (d : X → Place → Part) → ((n : TsExprWithTypeArgs X) → child_of extended_place (λ m place. ts_expr_with_type_args items m) (e n) ≡ child_of extended_place (λ m place. ts_expr_with_type_args d m) n) → (span : Span) (ns : List (TsExprWithTypeArgs X)) (after : Plan) → extends_clause items span (map e ns) after ≡ extends_clause d span ns after
unfolding extends_clause some_extends
extends_mapped e items d child span [] after = refl
extends_mapped e items d child span (n ∷ ns) after =
    ap (λ z. space (keyword None (codes "extends") (space z))) (children_mapped e (child_of extended_place (λ m place. ts_expr_with_type_args items m)) (child_of extended_place (λ m place. ts_expr_with_type_args d m)) child extended_format span (n ∷ ns) after)

interface_by : {X Y : Type 0} (g : X → Y) (asks : Y → Answers) (items : Y → Place → Part) (b : Box (TsInterfaceDecl X) Global) (n : TsInterfaceDecl X) (type_params : Option (TsTypeParamDeclBox X)) (rest : Plan) → node_items asks items (map-AnyNode X Y g (nodes.StmtPart (stmt_parts.Decl (decls.TsInterface (record b { value = record n { type_params = type_params } }))))) (Whole Plain) rest ≡ ts_interface_decl (λ x. items (g x)) (record n { type_params = type_params }) rest
unfolding node_items stmt_part decl whole_decl ts_interface_decl ts_expr_with_type_args type_params type_args
interface_by {X} {Y} g asks items b n None rest = ap (λ z. leading_comments n.span.lo (declare_word n.declare (keyword None (codes "interface") (space (ident n.id z))))) (extends_mapped {X = X} {Y = Y} _ items (λ x. items (g x)) (by_args {X = X} _ (λ e. refl) (λ e t. refl)) n.span n.extends.items (formatting_space (items (g n.body.node.value) (Whole Plain) rest)))
interface_by {X} {Y} g asks items b n (Some t) rest = ap (λ z. leading_comments n.span.lo (declare_word n.declare (keyword None (codes "interface") (space (ident n.id (items (g t.node.value) (Whole Plain) z)))))) (extends_mapped {X = X} {Y = Y} _ items (λ x. items (g x)) (by_args {X = X} _ (λ e. refl) (λ e t. refl)) n.span n.extends.items (formatting_space (items (g n.body.node.value) (Whole Plain) rest)))

pub interface_mapped : {X Y : Type 0} (g : X → Y) (asks : Y → Answers) (items : Y → Place → Part) (b : Box (TsInterfaceDecl X) Global) (rest : Plan) → node_items asks items (map-AnyNode X Y g (nodes.StmtPart (stmt_parts.Decl (decls.TsInterface b)))) (Whole Plain) rest ≡ ts_interface_decl (λ x. items (g x)) b.value rest
interface_mapped g asks items b rest = interface_by g asks items b b.value b.value.type_params rest

alias_by : {X Y : Type 0} (g : X → Y) (asks : Y → Answers) (items : Y → Place → Part) (b : Box (TsTypeAliasDecl X) Global) (n : TsTypeAliasDecl X) (type_params : Option (TsTypeParamDeclBox X)) (rest : Plan) → node_items asks items (map-AnyNode X Y g (nodes.StmtPart (stmt_parts.Decl (decls.TsTypeAlias (record b { value = record n { type_params = type_params } }))))) (Whole Plain) rest ≡ ts_type_alias_decl (λ x. items (g x)) (record n { type_params = type_params }) rest
unfolding node_items stmt_part decl whole_decl ts_type_alias_decl type_params
alias_by g asks items b n None rest = refl
alias_by g asks items b n (Some t) rest = refl

pub alias_mapped : {X Y : Type 0} (g : X → Y) (asks : Y → Answers) (items : Y → Place → Part) (b : Box (TsTypeAliasDecl X) Global) (rest : Plan) → node_items asks items (map-AnyNode X Y g (nodes.StmtPart (stmt_parts.Decl (decls.TsTypeAlias b)))) (Whole Plain) rest ≡ ts_type_alias_decl (λ x. items (g x)) b.value rest
alias_mapped g asks items b rest = alias_by g asks items b b.value b.value.type_params rest

-- ---- enums

pub enum_mapped : {X Y : Type 0} (g : X → Y) (asks : Y → Answers) (items : Y → Place → Part) (b : Box (TsEnumDecl X) Global) (rest : Plan) → node_items asks items (map-AnyNode X Y g (nodes.StmtPart (stmt_parts.Decl (decls.TsEnum b)))) (Whole Plain) rest ≡ ts_enum_decl (λ x. items (g x)) b.value rest
unfolding node_items stmt_part decl whole_decl ts_enum_decl enum_body ts_enum_member initializer
enum_mapped {X} g asks items b rest =
    let n : TsEnumDecl X = b.value in
    ap (λ z. leading_comments n.span.lo (declare_word n.declare (word_before n.is_const (codes "const") (keyword None (codes "enum") (space (ident n.id (formatting_space (punct (codes "{") z))))))))
    (children_mapped {A = TsEnumMember X} _ (child_of enum_member_place (λ m place. ts_enum_member items m)) (child_of enum_member_place (λ m place. ts_enum_member (λ x. items (g x)) m)) (by_value {X = X} _ (λ m. refl) (λ m v. refl)) enum_format n.span n.members.items (punct (codes "}") rest))

-- ---- namespaces and modules

module_by : {X Y : Type 0} (g : X → Y) (asks : Y → Answers) (items : Y → Place → Part) (b : Box (TsModuleDecl X) Global) (n : TsModuleDecl X) (body : Option (TsNamespaceBodyBox X)) (rest : Plan) → node_items asks items (map-AnyNode X Y g (nodes.StmtPart (stmt_parts.Decl (decls.TsModule (record b { value = record n { body = body } }))))) (Whole Plain) rest ≡ ts_module_decl (λ x. items (g x)) (record n { body = body }) rest
unfolding node_items stmt_part decl whole_decl ts_module_decl module_tail
module_by g asks items b n None rest = refl
module_by g asks items b n (Some m) rest = refl

pub module_mapped : {X Y : Type 0} (g : X → Y) (asks : Y → Answers) (items : Y → Place → Part) (b : Box (TsModuleDecl X) Global) (rest : Plan) → node_items asks items (map-AnyNode X Y g (nodes.StmtPart (stmt_parts.Decl (decls.TsModule b)))) (Whole Plain) rest ≡ ts_module_decl (λ x. items (g x)) b.value rest
module_mapped g asks items b rest = module_by g asks items b b.value b.value.body rest
