-- The productions of declarations of TypeScript see what links hold through f alone.
use Rattle.std.proofs.Common.{◌≡◌, refl, ap, List, [], ◌∷◌, map, codes, Option, Some, None, Box, Global}
use Rattle.swc_ecma_codegen_tree.specs.declared.links.AnyNode.{map-AnyNode}
use Rattle.swc_ecma_codegen_tree.specs.declared.links.AnyNode.TheOpen as nodes
use Rattle.swc_ecma_codegen_tree.specs.Links.{ExprBox, TsNamespaceBodyBox, TsTypeParamDeclBox, TsTypeParamInstantiationBox}
use Rattle.swc_ecma_codegen_tree.specs.declared.parts.StmtPart.TheVariants as stmt_parts
use Rattle.swc_ecma_codegen_tree.specs.declared.decls.Decl.TheVariants as decls
use Rattle.swc_ecma_codegen_tree.specs.declared.ts_decls.TsEnumDecl.{TsEnumDecl}
use Rattle.swc_ecma_codegen_tree.specs.declared.ts_decls.TsEnumMember.{TsEnumMember}
use Rattle.swc_ecma_codegen_tree.specs.declared.ts_decls.TsExprWithTypeArgs.{TsExprWithTypeArgs}
use Rattle.swc_ecma_codegen_tree.specs.declared.ts_decls.TsInterfaceDecl.{TsInterfaceDecl}
use Rattle.swc_ecma_codegen_tree.specs.declared.ts_decls.TsModuleDecl.{TsModuleDecl}
use Rattle.swc_ecma_codegen_tree.specs.declared.ts_decls.TsTypeAliasDecl.{TsTypeAliasDecl}
use Rattle.swc_ecma_codegen_grammar.specs.Phrases.{Phrase, Nothing, ◌>◌, mark, word, listed}
use Rattle.swc_ecma_codegen_grammar.specs.AnnotationPhrases.{type_args, type_params}
use Rattle.swc_ecma_codegen_grammar.specs.DeclPhrases.{decl}
use Rattle.swc_ecma_codegen_grammar.specs.FunctionPhrases.{word_if}
use Rattle.swc_ecma_codegen_grammar.specs.MemberPhrases.{interface_body_at}
use Rattle.swc_ecma_codegen_grammar.specs.NamePhrases.{ident}
use Rattle.swc_ecma_codegen_grammar.specs.PartPhrases.{stmt_part}
use Rattle.swc_ecma_codegen_grammar.specs.PatPhrases.{initializer}
use Rattle.swc_ecma_codegen_grammar.specs.TsDeclPhrases.{declare_word, ts_expr_with_type_args, extends_clause, ts_interface_decl, ts_type_alias_decl, ts_enum_member, ts_enum_decl, module_tail, ts_module_decl}
use Rattle.swc_ecma_codegen_grammar.specs.TypePhrases.{params_at}
use Rattle.swc_ecma_codegen_grammar.specs.declared.roles.Role.{Role}
use Rattle.swc_ecma_codegen_grammar.specs.declared.roles.Role.TheVariants.{Declaration}
use Rattle.swc_ecma_codegen_grammar.specs.TreePhrases.{node_phrase}
use Rattle.swc_ecma_codegen_grammar.proofs.Mapped.{list_mapped}

-- ---- interfaces and aliases

-- what holds of each that is extended, with arguments or without
with_args : {X : Type 0} (P : TsExprWithTypeArgs X → Type 0) (n : TsExprWithTypeArgs X) (type_args : Option (TsTypeParamInstantiationBox X)) → P (record n { type_args = None }) → ((t : TsTypeParamInstantiationBox X) → P (record n { type_args = Some t })) → P (record n { type_args = type_args })
with_args P n None bare typed = bare
with_args P n (Some t) bare typed = typed t

pub by_args : {X : Type 0} (P : TsExprWithTypeArgs X → Type 0) → ((n : TsExprWithTypeArgs X) → P (record n { type_args = None })) → ((n : TsExprWithTypeArgs X) (t : TsTypeParamInstantiationBox X) → P (record n { type_args = Some t })) → (n : TsExprWithTypeArgs X) → P n
by_args P bare typed n = with_args P n n.type_args (bare n) (typed n)

pub extends_mapped : {X Y : Type 0} (g : TsExprWithTypeArgs X → TsExprWithTypeArgs Y) (f : Y → Role → Phrase) (d : X → Role → Phrase) → ((n : TsExprWithTypeArgs X) → ts_expr_with_type_args f (g n) ≡ ts_expr_with_type_args d n) → (ns : List (TsExprWithTypeArgs X)) → extends_clause f (map g ns) ≡ extends_clause d ns
unfolding extends_clause
extends_mapped g f d same [] = refl
extends_mapped g f d same (n ∷ ns) = ap (λ ps. word (codes "extends") > listed (codes ",") ps) (list_mapped g (ts_expr_with_type_args f) (ts_expr_with_type_args d) same (n ∷ ns))

interface_by : {X Y : Type 0} (g : X → Y) (f : Y → Role → Phrase) (b : Box (TsInterfaceDecl X) Global) (n : TsInterfaceDecl X) (type_params : Option (TsTypeParamDeclBox X)) → node_phrase f (map-AnyNode X Y g (nodes.StmtPart (stmt_parts.Decl (decls.TsInterface (record b { value = record n { type_params = type_params } }))))) Declaration ≡ ts_interface_decl (λ x. f (g x)) (record n { type_params = type_params })
unfolding node_phrase stmt_part decl ts_interface_decl ts_expr_with_type_args type_params type_args
interface_by {X} {Y} g f b n None = ap (λ z. declare_word n.declare > word (codes "interface") > ident n.id > Nothing > z > interface_body_at (λ x. f (g x)) n.body) (extends_mapped {X = X} {Y = Y} _ f (λ x. f (g x)) (by_args {X = X} _ (λ e. refl) (λ e t. refl)) n.extends.items)
interface_by {X} {Y} g f b n (Some t) = ap (λ z. declare_word n.declare > word (codes "interface") > ident n.id > params_at (λ x. f (g x)) t > z > interface_body_at (λ x. f (g x)) n.body) (extends_mapped {X = X} {Y = Y} _ f (λ x. f (g x)) (by_args {X = X} _ (λ e. refl) (λ e t. refl)) n.extends.items)

pub interface_mapped : {X Y : Type 0} (g : X → Y) (f : Y → Role → Phrase) (b : Box (TsInterfaceDecl X) Global) → node_phrase f (map-AnyNode X Y g (nodes.StmtPart (stmt_parts.Decl (decls.TsInterface b)))) Declaration ≡ ts_interface_decl (λ x. f (g x)) b.value
interface_mapped g f b = interface_by g f b b.value b.value.type_params

alias_by : {X Y : Type 0} (g : X → Y) (f : Y → Role → Phrase) (b : Box (TsTypeAliasDecl X) Global) (n : TsTypeAliasDecl X) (type_params : Option (TsTypeParamDeclBox X)) → node_phrase f (map-AnyNode X Y g (nodes.StmtPart (stmt_parts.Decl (decls.TsTypeAlias (record b { value = record n { type_params = type_params } }))))) Declaration ≡ ts_type_alias_decl (λ x. f (g x)) (record n { type_params = type_params })
unfolding node_phrase stmt_part decl ts_type_alias_decl type_params
alias_by g f b n None = refl
alias_by g f b n (Some t) = refl

pub alias_mapped : {X Y : Type 0} (g : X → Y) (f : Y → Role → Phrase) (b : Box (TsTypeAliasDecl X) Global) → node_phrase f (map-AnyNode X Y g (nodes.StmtPart (stmt_parts.Decl (decls.TsTypeAlias b)))) Declaration ≡ ts_type_alias_decl (λ x. f (g x)) b.value
alias_mapped g f b = alias_by g f b b.value b.value.type_params

-- ---- enums

-- what holds of each member, with a value or without
with_init : {X : Type 0} (P : TsEnumMember X → Type 0) (n : TsEnumMember X) (init : Option (ExprBox X)) → P (record n { init = None }) → ((v : ExprBox X) → P (record n { init = Some v })) → P (record n { init = init })
with_init P n None bare valued = bare
with_init P n (Some v) bare valued = valued v

pub by_value : {X : Type 0} (P : TsEnumMember X → Type 0) → ((n : TsEnumMember X) → P (record n { init = None })) → ((n : TsEnumMember X) (v : ExprBox X) → P (record n { init = Some v })) → (n : TsEnumMember X) → P n
by_value P bare valued n = with_init P n n.init (bare n) (valued n)

pub enum_mapped : {X Y : Type 0} (g : X → Y) (f : Y → Role → Phrase) (b : Box (TsEnumDecl X) Global) → node_phrase f (map-AnyNode X Y g (nodes.StmtPart (stmt_parts.Decl (decls.TsEnum b)))) Declaration ≡ ts_enum_decl (λ x. f (g x)) b.value
unfolding node_phrase stmt_part decl ts_enum_decl ts_enum_member initializer
enum_mapped {X} g f b = ap (λ ps. declare_word b.value.declare > word_if b.value.is_const (word (codes "const")) > word (codes "enum") > ident b.value.id > mark (codes "{") > listed (codes ",") ps > mark (codes "}")) (list_mapped {A = TsEnumMember X} _ (ts_enum_member f) (ts_enum_member (λ x. f (g x))) (by_value {X = X} _ (λ m. refl) (λ m v. refl)) b.value.members.items)

-- ---- namespaces and modules

module_by : {X Y : Type 0} (g : X → Y) (f : Y → Role → Phrase) (b : Box (TsModuleDecl X) Global) (n : TsModuleDecl X) (body : Option (TsNamespaceBodyBox X)) → node_phrase f (map-AnyNode X Y g (nodes.StmtPart (stmt_parts.Decl (decls.TsModule (record b { value = record n { body = body } }))))) Declaration ≡ ts_module_decl (λ x. f (g x)) (record n { body = body })
unfolding node_phrase stmt_part decl ts_module_decl module_tail
module_by g f b n None = refl
module_by g f b n (Some body) = refl

pub module_mapped : {X Y : Type 0} (g : X → Y) (f : Y → Role → Phrase) (b : Box (TsModuleDecl X) Global) → node_phrase f (map-AnyNode X Y g (nodes.StmtPart (stmt_parts.Decl (decls.TsModule b)))) Declaration ≡ ts_module_decl (λ x. f (g x)) b.value
module_mapped g f b = module_by g f b b.value b.value.body
