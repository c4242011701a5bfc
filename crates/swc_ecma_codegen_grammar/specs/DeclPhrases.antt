-- Declarations: one production a node. `f` says what is read of what a link holds, in its role.
use Rattle.std.specs.Prelude.{Bool, true, false, map, codes}
use Rattle.swc_ecma_codegen_tree.specs.Links.{VarDeclBox}
use Rattle.swc_ecma_codegen_tree.specs.declared.decls.Decl.{Decl}
use Rattle.swc_ecma_codegen_tree.specs.declared.decls.Decl.TheVariants as decls
use Rattle.swc_ecma_codegen_tree.specs.declared.decls.FnDecl.{FnDecl}
use Rattle.swc_ecma_codegen_tree.specs.declared.decls.UsingDecl.{UsingDecl}
use Rattle.swc_ecma_codegen_tree.specs.declared.decls.VarDecl.{VarDecl}
use Rattle.swc_ecma_codegen_tree.specs.declared.decls.VarDeclKind.{VarDeclKind}
use Rattle.swc_ecma_codegen_tree.specs.declared.decls.VarDeclKind.TheVariants.{Var, Let, Const}
use Rattle.swc_ecma_codegen_tree.specs.declared.decls.VarDeclarator.{VarDeclarator}
use Rattle.swc_ecma_codegen_tree.specs.declared.pats.Pat.{Pat}
use Rattle.swc_ecma_codegen_tree.specs.declared.pats.Pat.TheVariants as pats
use Rattle.swc_ecma_codegen_grammar.specs.Phrases.{Phrase, Never, ◌>◌, word, mark, same_line, ending, some_listed}
use Rattle.swc_ecma_codegen_grammar.specs.AnnotationPhrases.{annotation}
use Rattle.swc_ecma_codegen_grammar.specs.NamePhrases.{ident}
use Rattle.swc_ecma_codegen_grammar.specs.PatPhrases.{pat, initializer}
use Rattle.swc_ecma_codegen_grammar.specs.ClassPhrases.{class_decl}
use Rattle.swc_ecma_codegen_grammar.specs.FunctionPhrases.{function_at}
use Rattle.swc_ecma_codegen_grammar.specs.TsDeclPhrases.{declare_word, ts_interface_decl, ts_type_alias_decl, ts_enum_decl, ts_module_decl}
use Rattle.swc_ecma_codegen_grammar.specs.declared.roles.Role.{Role}
use Rattle.swc_ecma_codegen_grammar.specs.declared.roles.Role.TheVariants.{FunctionHead, VariableDeclaration}

-- a declaration of variables that a link holds
abbrev pub var_decl_at : {X : Type 0} → (X → Role → Phrase) → VarDeclBox X → Phrase
var_decl_at f n = f n.node.value VariableDeclaration

-- ECMA-262, section 15.2: `function f(a) { b; }`, in TypeScript `declare function f(a);` too
unfoldable pub fn_decl : {X : Type 0} → (X → Role → Phrase) → FnDecl X → Phrase
fn_decl f n = declare_word n.declare > f n.function.node.value FunctionHead > ident n.ident > function_at f n.function

-- `a!: A`: a name alone is said to have a value
unfoldable pub definite_pat : {X : Type 0} → (X → Role → Phrase) → Pat X → Phrase
definite_pat f (pats.Ident n) = ident n.id > mark (codes "!") > annotation f n.type_ann
definite_pat f n = Never

-- what is declared, which may be said to have a value
unfoldable pub declared_pat : {X : Type 0} → (X → Role → Phrase) → Bool → Pat X → Phrase
declared_pat f true n = definite_pat f n
declared_pat f false n = pat f n

-- section 14.3: `a`, `a = b`, in TypeScript `a!: A` too
unfoldable pub var_declarator : {X : Type 0} → (X → Role → Phrase) → VarDeclarator X → Phrase
var_declarator f n = declared_pat f n.definite n.name > initializer f n.init

unfoldable pub var_kind : VarDeclKind → Phrase
var_kind Var = word (codes "var")
var_kind Let = word (codes "let")
var_kind Const = word (codes "const")

-- `let a = b, c`: of one declarator at least
unfoldable pub var_decl : {X : Type 0} → (X → Role → Phrase) → VarDecl X → Phrase
var_decl f n = declare_word n.declare > var_kind n.kind > some_listed (codes ",") (map (var_declarator f) n.decls.items)

-- behind `await`, where it is so, with no line end between
unfoldable pub after_await : Bool → Phrase → Phrase
after_await true phrase = word (codes "await") > same_line > phrase
after_await false phrase = phrase

-- A proposal: `await using a = b, c = d`, of one declarator at least. No line ends right after `using`, which would be a name then.
unfoldable pub using_decl : {X : Type 0} → (X → Role → Phrase) → UsingDecl X → Phrase
using_decl f n = after_await n.is_await (word (codes "using") > same_line > some_listed (codes ",") (map (var_declarator f) n.decls.items))

-- one of variables ends with a semicolon here, and has none in the head of a `for`
unfoldable pub decl : {X : Type 0} → (X → Role → Phrase) → Decl X → Phrase
decl f (decls.Class n) = class_decl f n
decl f (decls.Fn n) = fn_decl f n
decl f (decls.Var n) = var_decl f n > ending
decl f (decls.Using n) = using_decl f n > ending
decl f (decls.TsInterface n) = ts_interface_decl f n.value
decl f (decls.TsTypeAlias n) = ts_type_alias_decl f n.value
decl f (decls.TsEnum n) = ts_enum_decl f n.value
decl f (decls.TsModule n) = ts_module_decl f n.value
