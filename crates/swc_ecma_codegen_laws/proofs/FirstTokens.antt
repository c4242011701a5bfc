-- How the text of a node begins, by the first token of its lists.
use Rattle.std.proofs.Common.{◌≡◌, ℕ, Bool, true, false, cond, List, [], ◌∷◌, ◌++◌, map, codes, refl, sym, ap, ◌∙◌, subst, is_some, ◌||◌, inl, inr, Option, Some, None}
use Rattle.std.specs.declared.string.String.{String}
use Rattle.std.proofs.lemmas.Bool.{true≢false}
use denote.Hole.Holds.{Such}
use Rattle.swc_ecma_codegen_common.specs.Operators.{update_text}
use Rattle.swc_ecma_codegen_common.specs.declared.operators.UnaryOp.{UnaryOp}
use Rattle.swc_ecma_codegen_common.specs.declared.operators.UnaryOp.TheVariants as unary
use Rattle.swc_ecma_codegen_tree.specs.declared.links.AnyNode.{AnyNode, AnyNode-F, ind-AnyNode, roll-AnyNode}
use Rattle.swc_ecma_codegen_tree.specs.declared.links.AnyNode.TheOpen as nodes
use Rattle.swc_ecma_codegen_tree.specs.declared.links.AnyNode.TheBlock.{the_family, member-AnyNode}
use Rattle.swc_ecma_codegen_tree.specs.declared.links.AnyNode.TheFolds.{claims}
use Rattle.swc_ecma_codegen_tree.specs.Links.{ExprBox, PatBox, TsTypeParamDeclBox}
use Rattle.swc_ecma_codegen_tree.specs.declared.exprs.Expr.{Expr}
use Rattle.swc_ecma_codegen_tree.specs.declared.exprs.Expr.TheVariants as exprs
use Rattle.swc_ecma_codegen_tree.specs.declared.exprs.Callee.{Callee}
use Rattle.swc_ecma_codegen_tree.specs.declared.exprs.Callee.TheVariants as callees
use Rattle.swc_ecma_codegen_tree.specs.declared.exprs.NewExpr.{NewExpr}
use Rattle.swc_ecma_codegen_tree.specs.declared.exprs.OptChainBase.{OptChainBase}
use Rattle.swc_ecma_codegen_tree.specs.declared.exprs.OptChainBase.TheVariants as chain_bases
use Rattle.swc_ecma_codegen_tree.specs.declared.exprs.MetaPropKind.{MetaPropKind}
use Rattle.swc_ecma_codegen_tree.specs.declared.exprs.MetaPropKind.TheVariants as meta_props
use Rattle.swc_ecma_codegen_tree.specs.declared.exprs.TplElement.{TplElement}
use Rattle.swc_ecma_codegen_tree.specs.declared.exprs.PropName.{PropName}
use Rattle.swc_ecma_codegen_tree.specs.declared.exprs.PropName.TheVariants as prop_names
use Rattle.swc_ecma_codegen_tree.specs.declared.classes.Class as classes
use Rattle.swc_ecma_codegen_tree.specs.declared.decls.Function as functions
use Rattle.swc_ecma_codegen_tree.specs.declared.parts.ExprPart.{ExprPart}
use Rattle.swc_ecma_codegen_tree.specs.declared.parts.ExprPart.TheVariants as expr_parts
use Rattle.swc_ecma_codegen_tree.specs.declared.parts.StmtPart.{StmtPart}
use Rattle.swc_ecma_codegen_tree.specs.declared.parts.StmtPart.TheVariants as stmt_parts
use Rattle.swc_ecma_codegen_tree.specs.declared.jsx.JSXOpeningElement.{JSXOpeningElement}
use Rattle.swc_ecma_codegen_tree.specs.declared.idents.BindingIdent.{BindingIdent}
use Rattle.swc_ecma_codegen_tree.specs.declared.parts.TsPart.{TsPart}
use Rattle.swc_ecma_codegen_tree.specs.declared.parts.TsPart.TheVariants as ts_parts
use Rattle.swc_ecma_codegen_grammar.specs.TypePhrases.{ts_type_param_decl}
use Rattle.swc_ecma_codegen_grammar.specs.AnnotationPhrases.{type_params}
use Rattle.swc_ecma_codegen_tree.specs.declared.parts.JSXPart.{JSXPart}
use Rattle.swc_ecma_codegen_tree.specs.declared.parts.JSXPart.TheVariants as jsx_parts
use Rattle.swc_ecma_codegen_tree.specs.declared.pats.Pat.{Pat}
use Rattle.swc_ecma_codegen_tree.specs.declared.pats.Pat.TheVariants as pats
use Rattle.swc_ecma_codegen_tree.specs.declared.pats.AssignTargetPat.{AssignTargetPat}
use Rattle.swc_ecma_codegen_tree.specs.declared.pats.AssignTargetPat.TheVariants as target_pats
use Rattle.swc_ecma_codegen_tree.specs.declared.pats.AssignTarget.{AssignTarget}
use Rattle.swc_ecma_codegen_tree.specs.declared.pats.AssignTarget.TheVariants as targets
use Rattle.swc_ecma_codegen_tree.specs.declared.pats.SimpleAssignTarget.{SimpleAssignTarget}
use Rattle.swc_ecma_codegen_tree.specs.declared.pats.SimpleAssignTarget.TheVariants as simple_targets
use Rattle.swc_ecma_codegen_common.specs.declared.decimals.Decimal.{Decimal}
use Rattle.swc_ecma_codegen_tree.specs.declared.lits.Lit.{Lit}
use Rattle.swc_ecma_codegen_tree.specs.declared.lits.Lit.TheVariants as lits
use Rattle.swc_ecma_codegen_tree.specs.declared.lits.NumberValue.{NumberValue}
use Rattle.swc_ecma_codegen_tree.specs.declared.lits.NumberValue.TheVariants.{Finite, Infinity, NegInfinity, NaN}
use Rattle.swc_ecma_codegen_tree.specs.declared.decls.Decl.{Decl}
use Rattle.swc_ecma_codegen_tree.specs.declared.decls.Decl.TheVariants as decls
use Rattle.swc_ecma_codegen_tree.specs.declared.decls.VarDecl.{VarDecl}
use Rattle.swc_ecma_codegen_tree.specs.declared.decls.VarDeclKind.{VarDeclKind}
use Rattle.swc_ecma_codegen_tree.specs.declared.decls.VarDeclKind.TheVariants.{Var, Let, Const}
use Rattle.swc_ecma_codegen_tree.specs.declared.stmts.Stmt.{Stmt}
use Rattle.swc_ecma_codegen_tree.specs.declared.stmts.Stmt.TheVariants as stmts
use Rattle.swc_ecma_codegen_grammar.specs.Tokens.{Token}
use Rattle.swc_ecma_codegen_grammar.specs.Tokens as tokens
use Rattle.swc_ecma_codegen_common.specs.declared.positions.BytePos.{BytePos}
use Rattle.swc_ecma_codegen_grammar.specs.Phrases.{Phrase, Never, Nothing, One, NameOf, KeyOf, PrivateOf, Then, OptionalParentheses, Parameter, Generates, ◌>◌, mark, open_parenthesis}
use Rattle.swc_ecma_codegen_grammar.specs.Phrases as phrases
use Rattle.swc_ecma_codegen_grammar.specs.Settings.{Settings}
use Rattle.swc_ecma_codegen_grammar.specs.declared.roles.Role.{Role}
use Rattle.swc_ecma_codegen_grammar.specs.declared.roles.Role.TheVariants.{Expression, Statement, MemberExpression, ChainMember, AssignmentTarget, Pattern, PlainParameter, PropertyName, ObjectLiteral, Function, FunctionHead, MethodHead, Block, Declaration, VariableDeclaration, Callee as IsCallee, ChainCall, Template, TaggedTemplate, ClassHead, ClassWord, ClassTail, Member, MethodDecorators, MethodTail, AccessorTail, FieldValue, ModuleDeclaration, ExportedHead, ExportedTail, Element, Child, TagObject, AnyType, Annotation, TypeArguments, TypeParameters, EntityName, SignatureParameter, InterfaceBody, NamespaceBody, DottedBody}
use Rattle.swc_ecma_codegen_grammar.specs.NamePhrases as names
use Rattle.swc_ecma_codegen_grammar.specs.ExprPhrases as lists
use Rattle.swc_ecma_codegen_grammar.specs.LitPhrases as lit_lists
use Rattle.swc_ecma_codegen_grammar.specs.AssignPhrases as target_lists
use Rattle.swc_ecma_codegen_grammar.specs.CallPhrases as call_lists
use Rattle.swc_ecma_codegen_grammar.specs.PartPhrases as part_lists
use Rattle.swc_ecma_codegen_grammar.specs.DeclPhrases as decl_lists
use Rattle.swc_ecma_codegen_grammar.specs.TsDeclPhrases as ts_decl_lists
use Rattle.swc_ecma_codegen_grammar.specs.TsExprPhrases as ts_expr_lists
use Rattle.swc_ecma_codegen_tree.specs.declared.ts_decls.TsModuleName.{TsModuleName}
use Rattle.swc_ecma_codegen_tree.specs.declared.ts_decls.TsModuleName.TheVariants as module_names
use Rattle.swc_ecma_codegen_grammar.specs.FunctionPhrases as function_lists
use Rattle.swc_ecma_codegen_grammar.specs.PatPhrases as pat_lists
use Rattle.swc_ecma_codegen_grammar.specs.KeyPhrases as key_lists
use Rattle.swc_ecma_codegen_grammar.specs.PropPhrases as prop_lists
use Rattle.swc_ecma_codegen_grammar.specs.ClassPhrases as class_lists
use Rattle.swc_ecma_codegen_grammar.specs.TemplatePhrases as template_lists
use Rattle.swc_ecma_codegen_grammar.specs.JsxPhrases as jsx_lists
use Rattle.swc_ecma_codegen_grammar.specs.StmtPhrases as stmt_lists
use Rattle.swc_ecma_codegen_grammar.specs.TreePhrases.{node_phrase, phrase, expr_phrase}
use Rattle.swc_ecma_codegen_grammar.proofs.TreeLaws.{phrase_of}
use Rattle.swc_ecma_codegen_settings.specs.Starts.{is_word_op, lit_starts, update_starts, first_starts, only_starts, arrow_starts, chain_starts, expr_starts, prop_name_starts, pat_starts, stmt_part_starts, simple_target_starts, target_starts, expr_part_starts, stmt_starts, node_starts, any_starts, callee_starts}
use Rattle.swc_ecma_codegen_settings.proofs.Begins.{starts_of}
use Rattle.swc_ecma_codegen_laws.specs.FirstTokens.{joins_a_word}

-- No list of a phrase is empty, and where one begins with a word, a name or a number, b is true.
record Begins (f : Phrase) (b : Bool) : Type 0 where
  some : (s : Settings) → Generates s f [] → ⊥
  joins : (s : Settings) (x : Token) (xs : List Token) → Generates s f (x ∷ xs) → joins_a_word x.kind ≡ true → b ≡ true

first_of : Token → List Token → Token
first_of d [] = d
first_of d (x ∷ xs) = x

same_first : (x y : Token) (xs ys : List Token) → x ∷ xs ≡ y ∷ ys → x ≡ y
unfolding first_of
same_first x y xs ys e = ap (first_of x) e

nothing_first : (y : Token) (ys : List Token) → [] ≡ y ∷ ys → ⊥
nothing_first y ys e = cc

-- a phrase begins as its first part does
then_some : (f g : Phrase) (b : Bool) → Begins f b → (s : Settings) (us vs : List Token) → Generates s f us → [] ≡ us ++ vs → ⊥
then_some f g b h s [] vs k e = h.some s k
then_some f g b h s (u ∷ us) vs k e = nothing_first u (us ++ vs) e

then_joins : (f g : Phrase) (b : Bool) → Begins f b → (s : Settings) (x : Token) (xs us vs : List Token) → Generates s f us → x ∷ xs ≡ us ++ vs → joins_a_word x.kind ≡ true → b ≡ true
then_joins f g b h s x xs [] vs k e j = absurd (h.some s k)
then_joins f g b h s x xs (u ∷ us) vs k e j = h.joins s u us k (subst (λ (z : Token). joins_a_word z.kind ≡ true) (same_first x u xs (us ++ vs) e) j)

begins_then : (f g : Phrase) (b : Bool) → Begins f b → Begins (Then f g) b
unfolding Generates
begins_then f g b h = record {
  some = λ s k. then_some f g b h s k.0 k.1 k.2 k.4;
  joins = λ s x xs k j. then_joins f g b h s x xs k.0 k.1 k.2 k.4 j;
}

-- a punctuator is no word, and what begins with a word is said to
begins_mark : (t : List ℕ) (b : Bool) → Begins (mark t) b
unfolding Generates tokens.punctuator joins_a_word
begins_mark t b = record {
  some = λ s k. nothing_first _ [] k;
  joins = λ s x xs k j. absurd (true≢false (sym j ∙ ap (λ (z : Token). joins_a_word z.kind) (same_first x (tokens.punctuator t) xs [] k)));
}

begins_true : (x : Token) → Begins (One x) true
unfolding Generates
begins_true x = record { some = λ s k. nothing_first x [] k; joins = λ s y ys k j. refl }

begins_name : (at : BytePos) (bytes : List ℕ) → Begins (NameOf at bytes) true
unfolding Generates
begins_name at bytes = record { some = λ s k. nothing_first _ [] k; joins = λ s y ys k j. refl }

-- `#a` is no word
begins_private : (bytes : List ℕ) (b : Bool) → Begins (PrivateOf bytes) b
unfolding Generates tokens.private_name joins_a_word
begins_private bytes b = record {
  some = λ s k. nothing_first _ [] k;
  joins = λ s x xs k j. absurd (true≢false (sym j ∙ ap (λ (z : Token). joins_a_word z.kind) (same_first x _ xs [] k)));
}

begins_never : (b : Bool) → Begins Never b
unfolding Generates
begins_never b = record { some = λ s k. k; joins = λ s y ys k j. absurd k }

-- a token that is no word begins as it likes
begins_other : (x : Token) (b : Bool) → joins_a_word x.kind ≡ false → Begins (One x) b
unfolding Generates
begins_other x b e = record {
  some = λ s k. nothing_first x [] k;
  joins = λ s y ys k j. absurd (true≢false (sym j ∙ ap (λ (z : Token). joins_a_word z.kind) (same_first y x ys [] k) ∙ e));
}

begins_where : (c : Bool) (f : Phrase) (b : Bool) → Begins f b → Begins (phrases.where_ c f) b
unfolding phrases.where_
begins_where true f b h = h
begins_where false f b h = begins_never b

begins_signed : (negative : Bool) (x : Token) → Begins (lit_lists.after_sign negative (One x)) true
unfolding lit_lists.after_sign
begins_signed true x = begins_then _ _ _ (begins_mark _ true)
begins_signed false x = begins_true x

begins_finite : {Z : Type 0} (d : Decimal) (raw : Option (String Z)) → Begins (lit_lists.finite d raw) true
unfolding lit_lists.finite
begins_finite d None = begins_signed d.negative _
begins_finite d (Some raw) = begins_where _ _ _ (begins_true _)

begins_infinity : {Z : Type 0} (raw : Option (String Z)) → Begins (lit_lists.infinity raw) true
unfolding lit_lists.infinity
begins_infinity None = begins_true _
begins_infinity (Some raw) = begins_where _ _ _ (begins_true _)

begins_without_raw : {Z : Type 0} (raw : Option (String Z)) (f : Phrase) (b : Bool) → Begins f b → Begins (lit_lists.without_raw raw f) b
unfolding lit_lists.without_raw
begins_without_raw None f b h = h
begins_without_raw (Some raw) f b h = begins_never b

begins_number : {Z : Type 0} (value : NumberValue) (raw : Option (String Z)) → Begins (lit_lists.number_of value raw) true
unfolding lit_lists.number_of
begins_number (Finite d) raw = begins_finite d raw
begins_number Infinity raw = begins_infinity raw
begins_number NegInfinity raw = begins_without_raw raw _ true (begins_signed true _)
begins_number NaN raw = begins_without_raw raw _ true (begins_true _)

begins_lit : (n : Lit) → Begins (lit_lists.lit n) (lit_starts n)
unfolding lit_starts lit_lists.lit lit_lists.str_lit lit_lists.string_token lit_lists.bool_lit lit_lists.null_lit lit_lists.number lit_lists.big_int lit_lists.regex tokens.token_of joins_a_word
begins_lit (lits.Str n) = begins_where _ _ _ (begins_other _ false refl)
begins_lit (lits.Bool n) = begins_true _
begins_lit (lits.Null n) = begins_true _
begins_lit (lits.Num n) = begins_number n.value.value n.value.raw
begins_lit (lits.BigInt n) = begins_where _ _ _ (begins_signed n.value.negative _)
begins_lit (lits.Regex n) = begins_where _ _ _ (begins_other _ false refl)
begins_lit (lits.JSXText n) = begins_never false

begins_unary : (op : UnaryOp) → Begins (One (lists.unary_op op)) (is_word_op op)
unfolding lists.unary_op is_word_op
begins_unary unary.Minus = begins_mark _ false
begins_unary unary.Plus = begins_mark _ false
begins_unary unary.Bang = begins_mark _ false
begins_unary unary.Tilde = begins_mark _ false
begins_unary unary.TypeOf = begins_true _
begins_unary unary.Void = begins_true _
begins_unary unary.Delete = begins_true _

begins_update : (prefix : Bool) (op : List ℕ) (f : Phrase) (b : Bool) → Begins f b → Begins (cond prefix (mark op > f) (f > phrases.same_line > mark op)) (cond prefix false b)
begins_update true op f b h = begins_then (mark op) f false (begins_mark op false)
begins_update false op f b h = begins_then f (phrases.same_line > mark op) b h

-- In these roles something begins that is asked how it begins. A property, the value of one and a member are never asked, nor is a part of a tag's name, nor a type,
-- and what stands before the name of a method or before a class may be nothing.
leads : Role → Bool
leads MethodHead = false
leads ClassHead = false
leads ClassTail = false
leads Member = false
leads MethodDecorators = false
leads MethodTail = false
leads AccessorTail = false
leads FieldValue = false
leads ModuleDeclaration = false
leads ExportedHead = false
leads ExportedTail = false
leads TagObject = false
leads AnyType = false
leads Annotation = false
leads TypeArguments = false
leads EntityName = false
leads SignatureParameter = false
leads InterfaceBody = false
leads NamespaceBody = false
leads DottedBody = false
leads role = true

-- `function` is a word, and so are `class` and `let`; a block and an object begin with a brace, a template with a back quote, and an
-- element with `<`
begins_as : Role → Bool → Bool
begins_as FunctionHead b = true
begins_as ClassWord b = true
begins_as VariableDeclaration b = true
begins_as Block b = false
begins_as ObjectLiteral b = false
begins_as Template b = false
begins_as TaggedTemplate b = false
begins_as Element b = false
begins_as Child b = false
begins_as TypeParameters b = false
begins_as role b = b

-- what a node begins with, where what its links hold begins as f says
abbrev Begin : {X : Type 0} → (X → Role → Phrase) → (X → Bool) → Type 0
Begin {X} reads starts = (x : X) (role : Role) → leads role ≡ true → Begins (reads x role) (begins_as role (starts x))

seq_begins : {X : Type 0} (reads : X → Role → Phrase) (starts : X → Bool) → Begin reads starts → (xs : List (ExprBox X)) → Begins (phrases.some_listed (codes ",") (map (lists.expr_at reads) xs)) (first_starts starts xs)
unfolding phrases.some_listed first_starts leads begins_as
seq_begins reads starts law [] = begins_never false
seq_begins reads starts law (x ∷ xs) = begins_then _ _ _ (law x.node.value Expression refl)

meta_prop_begins : (kind : MetaPropKind) → Begins (lists.meta_prop kind) true
unfolding lists.meta_prop
meta_prop_begins meta_props.NewTarget = begins_then _ _ _ (begins_true _)
meta_prop_begins meta_props.ImportMeta = begins_then _ _ _ (begins_true _)

chain_begins : {X : Type 0} (reads : X → Role → Phrase) (starts : X → Bool) → Begin reads starts → (optional : Bool) (n : OptChainBase X) → Begins (lists.chain_base reads optional n) (chain_starts starts n)
unfolding lists.chain_base chain_starts leads begins_as
chain_begins reads starts law optional (chain_bases.Member n) = law n.node.value (ChainMember optional) refl
chain_begins reads starts law optional (chain_bases.Call n) = law n.node.value (ChainCall optional) refl

unless_begins : (typed : Bool) (f : Phrase) (b : Bool) → Begins f b → Begins (cond typed Never f) b
unless_begins true f b h = begins_never b
unless_begins false f b h = h

callee_begins : {X : Type 0} (reads : X → Role → Phrase) (starts : X → Bool) → Begin reads starts → (n : Callee X) → Begins (call_lists.callee reads n) (callee_starts starts n)
unfolding call_lists.callee call_lists.import_callee callee_starts leads begins_as
callee_begins reads starts law (callees.Super n) = begins_true _
callee_begins reads starts law (callees.Import n) = begins_then _ _ _ (begins_true _)
callee_begins reads starts law (callees.Expr n) = law n.node.value IsCallee refl

new_begins : {X : Type 0} (reads : X → Role → Phrase) (keeps : Bool) (n : NewExpr X) → Begins (call_lists.new_expr reads keeps n) true
unfolding call_lists.new_expr
new_begins reads keeps n = begins_then _ _ _ (begins_true _)

-- ---- functions

begins_behind : (f : Phrase) (b : Bool) → Begins f b → Begins (Nothing > f) b
unfolding Generates
begins_behind f b h = record {
  some = λ s k. h.some s (subst (λ z. Generates s f z) (sym (k.4 ∙ ap (λ z. z ++ k.1) k.2)) k.3);
  joins = λ s x xs k j. h.joins s x xs (subst (λ z. Generates s f z) (sym (k.4 ∙ ap (λ z. z ++ k.1) k.2)) k.3) j;
}

begins_parentheses : (f : Phrase) (b : Bool) → Begins f b → Begins (OptionalParentheses Parameter f) b
unfolding Generates tokens.punctuator joins_a_word
begins_parentheses f b h = record {
  some = λ s k. elim k [ inl g ↦ h.some s g | inr g ↦ nothing_first _ _ g.2 ];
  joins = λ s x xs k j. elim k [
    | inl g ↦ h.joins s x xs g j
    | inr g ↦ absurd (true≢false (sym j ∙ ap (λ (z : Token). joins_a_word z.kind) (same_first x open_parenthesis xs _ g.2)))
  ];
}

function_head_begins : {X : Type 0} (n : functions.Function X) (is_async : Bool) (rest : Phrase) → Begins (function_lists.after_async is_async (phrases.word (codes "function") > rest)) true
unfolding function_lists.after_async
function_head_begins n true rest = begins_then _ _ _ (begins_true _)
function_head_begins n false rest = begins_then _ _ _ (begins_true _)

-- what begins with no word
begins_no_word : (f : Phrase) (b : Bool) → Begins f false → Begins f b
begins_no_word f b h = record { some = h.some; joins = λ s x xs k j. absurd (true≢false (sym (h.joins s x xs k j))) }

types_then : {X : Type 0} (reads : X → Role → Phrase) (starts : X → Bool) → Begin reads starts → (ps : Option (TsTypeParamDeclBox X)) (f : Phrase) (b : Bool) → Begins f b → Begins (type_params reads ps > f) b
unfolding leads begins_as type_params
types_then reads starts law None f b h = begins_behind f b h
types_then reads starts law (Some t) f b h = begins_then _ _ _ (begins_no_word _ b (law t.node.value TypeParameters refl))

function_begins : {X : Type 0} (reads : X → Role → Phrase) (starts : X → Bool) → Begin reads starts → (decorated : Bool) (ps : Option (TsTypeParamDeclBox X)) (rest : Phrase) → Begins (cond decorated Never (type_params reads ps > mark (codes "(") > rest)) false
function_begins reads starts law true ps rest = begins_never false
function_begins reads starts law false ps rest = types_then reads starts law ps _ false (begins_then _ _ _ (begins_mark _ false))

only_begins : {X : Type 0} (reads : X → Role → Phrase) (starts : X → Bool) → Begin reads starts → (n : PatBox X) → Begins (function_lists.only_parameter reads n) (starts n.node.value)
unfolding function_lists.only_parameter leads begins_as
only_begins reads starts law n = either (function_lists.is_never (reads n.node.value PlainParameter))
  where
    either : (never : Bool) → Begins (cond never (mark (codes "(") > reads n.node.value Pattern > mark (codes ")")) (OptionalParentheses Parameter (reads n.node.value Pattern))) (starts n.node.value)
    either true = begins_then _ _ _ (begins_mark _ _)
    either false = begins_parentheses _ _ (law n.node.value Pattern refl)

params_begin : {X : Type 0} (reads : X → Role → Phrase) (starts : X → Bool) → Begin reads starts → (typed : Bool) (ns : List (PatBox X)) (rest : Phrase) → Begins (function_lists.arrow_parameters reads typed ns > rest) (only_starts starts ns)
unfolding function_lists.arrow_parameters only_starts
params_begin reads starts law true ns rest = begins_then _ _ _ (begins_then _ _ _ (begins_mark _ _))
params_begin reads starts law false [] rest = begins_then _ _ _ (begins_then _ _ _ (begins_mark _ _))
params_begin reads starts law false (n ∷ []) rest = begins_then _ _ _ (only_begins reads starts law n)
params_begin reads starts law false (n ∷ m ∷ ns) rest = begins_then _ _ _ (begins_then _ _ _ (begins_mark _ _))

arrow_begins : {X : Type 0} (reads : X → Role → Phrase) (starts : X → Bool) → Begin reads starts → (ps : Option (TsTypeParamDeclBox X)) (typed is_async is_generator : Bool) (ns : List (PatBox X)) (rest : Phrase) → Begins (function_lists.after_async is_async (function_lists.word_if is_generator (mark (codes "*")) > type_params reads ps > function_lists.arrow_parameters reads typed ns > rest)) (cond is_async true (only_starts starts ns))
unfolding function_lists.word_if function_lists.after_async
arrow_begins reads starts law ps typed true is_generator ns rest = begins_then _ _ _ (begins_true _)
arrow_begins reads starts law ps typed false true ns rest = begins_then _ _ _ (begins_mark _ _)
arrow_begins reads starts law ps typed false false ns rest = begins_behind _ _ (types_then reads starts law ps _ _ (params_begin reads starts law typed ns rest))

-- ---- classes

-- whatever stands before it, even nothing
begins_before : (f g : Phrase) → Begins g true → Begins (f > g) true
unfolding Generates
begins_before f g h = record {
  some = λ s k. either_some s k.0 k.1 k.3 k.4;
  joins = λ s x xs k j. refl;
}
  where
    either_some : (s : Settings) (us vs : List Token) → Generates s g vs → [] ≡ us ++ vs → ⊥
    either_some s [] vs k e = h.some s (subst (λ z. Generates s g z) (sym e) k)
    either_some s (u ∷ us) vs k e = nothing_first u (us ++ vs) e

-- ---- templates

tpl_begins : {A : Type 0} (each : A → Phrase) (counted tagged : Bool) (es : List A) (qs : List TplElement) → Begins (cond counted (template_lists.tpl_parts each tagged es qs) Never) false
unfolding template_lists.tpl_parts template_lists.tpl_element template_lists.part_phrase template_lists.part_kind tokens.token_of joins_a_word
tpl_begins each true tagged es [] = begins_never false
tpl_begins each true tagged es (q ∷ qs) = begins_then _ _ _ (begins_where _ _ _ (begins_other _ false refl))
tpl_begins each false tagged es qs = begins_never false

expr_begins : {X : Type 0} (reads : X → Role → Phrase) (starts : X → Bool) → Begin reads starts → (n : Expr X) → Begins (lists.expr reads n) (expr_starts starts n)
unfolding expr_starts update_starts arrow_starts template_lists.tagged_tpl class_lists.class_expr function_lists.fn_expr function_lists.arrow_expr lists.expr lists.member_expr lists.this_expr lists.unary_expr lists.update_expr lists.update_op lists.bin_expr lists.assign_expr lists.super_prop_expr lists.yield_expr lists.meta_prop_expr lists.await_expr lists.opt_chain_expr lists.cond_expr lists.seq_expr lists.paren_expr names.ident names.private_name call_lists.array_lit call_lists.call_expr prop_lists.object_lit ts_expr_lists.ts_as_expr ts_expr_lists.ts_const_assertion ts_expr_lists.ts_satisfies_expr ts_expr_lists.ts_non_null_expr ts_expr_lists.ts_type_assertion ts_expr_lists.ts_instantiation leads begins_as
expr_begins reads starts law (exprs.This n) = begins_true _
expr_begins reads starts law (exprs.Object n) = begins_then _ _ _ (begins_mark _ false)
expr_begins reads starts law (exprs.Fn n) = begins_then _ _ _ (law n.function.node.value FunctionHead refl)
expr_begins reads starts law (exprs.Array n) = begins_then _ _ _ (begins_mark _ false)
expr_begins reads starts law (exprs.Unary n) = begins_then _ _ _ (begins_unary n.op)
expr_begins reads starts law (exprs.Update n) = begins_update n.prefix (update_text n.op) _ _ (law n.arg.node.value Expression refl)
expr_begins reads starts law (exprs.Bin n) = begins_then _ _ _ (law n.left.node.value Expression refl)
expr_begins reads starts law (exprs.Assign n) = begins_then _ _ _ (law n.left.node.value AssignmentTarget refl)
expr_begins reads starts law (exprs.Member n) = begins_then _ _ _ (law n.obj.node.value IsCallee refl)
expr_begins reads starts law (exprs.SuperProp n) = begins_then _ _ _ (begins_true _)
expr_begins reads starts law (exprs.Cond n) = begins_then _ _ _ (law n.test.node.value Expression refl)
expr_begins reads starts law (exprs.Call n) = begins_then _ _ _ (callee_begins reads starts law n.callee)
expr_begins reads starts law (exprs.New n) = new_begins reads false n
expr_begins reads starts law (exprs.Seq n) = seq_begins reads starts law n.exprs.items
expr_begins reads starts law (exprs.Ident n) = begins_then _ _ _ (begins_name _ _)
expr_begins reads starts law (exprs.Lit n) = begins_lit n
expr_begins reads starts law (exprs.Tpl n) = law n.node.value Template refl
expr_begins reads starts law (exprs.TaggedTpl n) = begins_then _ _ _ (law n.tag.node.value IsCallee refl)
expr_begins reads starts law (exprs.Arrow n) = arrow_begins reads starts law n.value.type_params (function_lists.is_typed_arrow n.value) n.value.is_async n.value.is_generator n.value.params.items _
expr_begins reads starts law (exprs.Class n) = begins_before _ _ (begins_then _ _ _ (law n.class.node.value ClassWord refl))
expr_begins reads starts law (exprs.Yield n) = begins_then _ _ _ (begins_true _)
expr_begins reads starts law (exprs.MetaProp n) = meta_prop_begins n.kind
expr_begins reads starts law (exprs.Await n) = begins_then _ _ _ (begins_true _)
expr_begins reads starts law (exprs.Paren n) = begins_then _ _ _ (begins_mark _ false)
expr_begins reads starts law (exprs.PrivateName n) = begins_private _ _
expr_begins reads starts law (exprs.OptChain n) = chain_begins reads starts law n.optional n.base
expr_begins reads starts law (exprs.JSXElement n) = law n.node.value Element refl
expr_begins reads starts law (exprs.JSXFragment n) = law n.node.value Element refl
expr_begins reads starts law (exprs.TsAs n) = begins_then _ _ _ (law n.expr.node.value Expression refl)
expr_begins reads starts law (exprs.TsConstAssertion n) = begins_then _ _ _ (law n.expr.node.value Expression refl)
expr_begins reads starts law (exprs.TsSatisfies n) = begins_then _ _ _ (law n.expr.node.value Expression refl)
expr_begins reads starts law (exprs.TsNonNull n) = begins_then _ _ _ (law n.expr.node.value Expression refl)
expr_begins reads starts law (exprs.TsTypeAssertion n) = begins_then _ _ _ (begins_mark _ false)
expr_begins reads starts law (exprs.TsInstantiation n) = begins_then _ _ _ (law n.expr.node.value Expression refl)
expr_begins reads starts law n = begins_never _

callee_expr_begins : {X : Type 0} (reads : X → Role → Phrase) (starts : X → Bool) → Begin reads starts → (n : Expr X) → Begins (lists.expr_in reads true n) (expr_starts starts n)
unfolding lists.expr_in expr_starts
callee_expr_begins reads starts law (exprs.New n) = new_begins reads true n
callee_expr_begins reads starts law n = expr_begins reads starts law n

kind_begins : (kind : VarDeclKind) → Begins (decl_lists.var_kind kind) true
unfolding decl_lists.var_kind
kind_begins Var = begins_true _
kind_begins Let = begins_true _
kind_begins Const = begins_true _

-- behind a word that may be missing
word_first : (wanted : Bool) (t : List ℕ) (f : Phrase) → Begins f true → Begins (function_lists.word_if wanted (phrases.word t) > f) true
unfolding function_lists.word_if
word_first true t f h = begins_then _ _ _ (begins_true _)
word_first false t f h = begins_behind f true h

declare_first : (declared : Bool) (f : Phrase) → Begins f true → Begins (ts_decl_lists.declare_word declared > f) true
unfolding ts_decl_lists.declare_word
declare_first declared f h = word_first declared (codes "declare") f h

class_word_begins : {X : Type 0} (n : classes.Class X) → Begins (class_lists.class_word n) true
unfolding class_lists.class_word
class_word_begins n = word_first n.is_abstract (codes "abstract") _ (begins_true _)

module_head_begins : (global : Bool) (n : TsModuleName) → Begins (ts_decl_lists.module_head global n) true
unfolding ts_decl_lists.module_head ts_decl_lists.ts_module_name
module_head_begins true n = begins_where _ _ _ (begins_true _)
module_head_begins false (module_names.Ident n) = begins_then _ _ _ (begins_true _)
module_head_begins false (module_names.Str n) = begins_then _ _ _ (begins_true _)

var_decl_begins : {X : Type 0} (reads : X → Role → Phrase) (n : VarDecl X) → Begins (decl_lists.var_decl reads n) true
unfolding decl_lists.var_decl
var_decl_begins reads n = declare_first n.declare _ (begins_then _ _ _ (kind_begins n.kind))

using_begins : (is_await : Bool) (rest : Phrase) → Begins (decl_lists.after_await is_await (phrases.word (codes "using") > rest)) true
unfolding decl_lists.after_await
using_begins true rest = begins_then _ _ _ (begins_true _)
using_begins false rest = begins_then _ _ _ (begins_true _)

decl_begins : {X : Type 0} (reads : X → Role → Phrase) (starts : X → Bool) → Begin reads starts → (n : Decl X) → Begins (decl_lists.decl reads n) true
unfolding leads begins_as decl_lists.decl class_lists.class_decl decl_lists.fn_decl decl_lists.using_decl ts_decl_lists.ts_interface_decl ts_decl_lists.ts_type_alias_decl ts_decl_lists.ts_enum_decl ts_decl_lists.ts_module_decl
decl_begins reads starts law (decls.Class n) = declare_first n.declare _ (begins_before _ _ (begins_then _ _ _ (law n.class.node.value ClassWord refl)))
decl_begins reads starts law (decls.Fn n) = declare_first n.declare _ (begins_then _ _ _ (law n.function.node.value FunctionHead refl))
decl_begins reads starts law (decls.Var n) = begins_then _ _ _ (var_decl_begins reads n)
decl_begins reads starts law (decls.Using n) = begins_then _ _ _ (using_begins n.is_await _)
decl_begins reads starts law (decls.TsInterface n) = declare_first n.value.declare _ (begins_then _ _ _ (begins_true _))
decl_begins reads starts law (decls.TsTypeAlias n) = declare_first n.value.declare _ (begins_then _ _ _ (begins_true _))
decl_begins reads starts law (decls.TsEnum n) = declare_first n.value.declare _ (word_first n.value.is_const (codes "const") _ (begins_then _ _ _ (begins_true _)))
decl_begins reads starts law (decls.TsModule n) = declare_first n.value.declare _ (begins_then _ _ _ (module_head_begins n.value.global n.value.id))

stmt_begins : {X : Type 0} (reads : X → Role → Phrase) (starts : X → Bool) → Begin reads starts → (n : Stmt X) → Begins (stmt_lists.stmt reads n) (stmt_starts starts n)
unfolding leads begins_as stmt_starts names.ident stmt_lists.stmt stmt_lists.empty_stmt stmt_lists.expr_stmt stmt_lists.debugger_stmt stmt_lists.with_stmt stmt_lists.return_stmt stmt_lists.labeled_stmt stmt_lists.break_stmt stmt_lists.continue_stmt stmt_lists.if_stmt stmt_lists.switch_stmt stmt_lists.throw_stmt stmt_lists.try_stmt stmt_lists.while_stmt stmt_lists.do_while_stmt stmt_lists.for_stmt stmt_lists.for_in_stmt stmt_lists.for_of_stmt
stmt_begins reads starts law (stmts.Block n) = law n.node.value Block refl
stmt_begins reads starts law (stmts.Empty n) = begins_mark _ false
stmt_begins reads starts law (stmts.Expr n) = begins_then _ _ _ (law n.expr.node.value Expression refl)
stmt_begins reads starts law (stmts.Decl n) = decl_begins reads starts law n
stmt_begins reads starts law (stmts.Labeled n) = begins_then _ _ _ (begins_then _ _ _ (begins_name _ _))
stmt_begins reads starts law n = begins_then _ _ _ (begins_true _)

binding_begins : {X : Type 0} (reads : X → Role → Phrase) (n : BindingIdent X) → Begins (names.binding_ident reads n) true
unfolding names.ident names.binding_ident
binding_begins reads n = begins_then _ _ _ (begins_then _ _ _ (begins_name _ _))

simple_target_begins : {X : Type 0} (reads : X → Role → Phrase) (starts : X → Bool) → Begin reads starts → (n : SimpleAssignTarget X) → Begins (target_lists.simple_assign_target reads n) (simple_target_starts starts n)
unfolding simple_target_starts target_lists.simple_assign_target lists.member_expr lists.super_prop_expr lists.paren_expr lists.opt_chain_expr ts_expr_lists.ts_as_expr ts_expr_lists.ts_satisfies_expr ts_expr_lists.ts_non_null_expr ts_expr_lists.ts_type_assertion ts_expr_lists.ts_instantiation leads begins_as
simple_target_begins reads starts law (simple_targets.Ident n) = binding_begins reads n
simple_target_begins reads starts law (simple_targets.Member n) = begins_then _ _ _ (law n.obj.node.value IsCallee refl)
simple_target_begins reads starts law (simple_targets.SuperProp n) = begins_then _ _ _ (begins_true _)
simple_target_begins reads starts law (simple_targets.Paren n) = begins_then _ _ _ (begins_mark _ false)
simple_target_begins reads starts law (simple_targets.OptChain n) = chain_begins reads starts law n.optional n.base
simple_target_begins reads starts law (simple_targets.TsAs n) = begins_then _ _ _ (law n.expr.node.value Expression refl)
simple_target_begins reads starts law (simple_targets.TsSatisfies n) = begins_then _ _ _ (law n.expr.node.value Expression refl)
simple_target_begins reads starts law (simple_targets.TsNonNull n) = begins_then _ _ _ (law n.expr.node.value Expression refl)
simple_target_begins reads starts law (simple_targets.TsTypeAssertion n) = begins_then _ _ _ (begins_mark _ true)
simple_target_begins reads starts law (simple_targets.TsInstantiation n) = begins_then _ _ _ (law n.expr.node.value Expression refl)
simple_target_begins reads starts law (simple_targets.Invalid n) = begins_never _

target_pat_begins : {X : Type 0} (reads : X → Role → Phrase) (n : AssignTargetPat X) → Begins (pat_lists.assign_target_pat reads n) false
unfolding pat_lists.assign_target_pat pat_lists.array_pat pat_lists.object_pat
target_pat_begins reads (target_pats.Array n) = begins_then _ _ _ (begins_mark _ false)
target_pat_begins reads (target_pats.Object n) = begins_then _ _ _ (begins_mark _ false)
target_pat_begins reads (target_pats.Invalid n) = begins_never false

target_begins : {X : Type 0} (reads : X → Role → Phrase) (starts : X → Bool) → Begin reads starts → (n : AssignTarget X) → Begins (target_lists.assign_target reads n) (target_starts starts n)
unfolding target_starts target_lists.assign_target
target_begins reads starts law (targets.Simple n) = simple_target_begins reads starts law n
target_begins reads starts law (targets.Pat n) = target_pat_begins reads n

pat_begins : {X : Type 0} (reads : X → Role → Phrase) (starts : X → Bool) → Begin reads starts → (n : Pat X) → Begins (pat_lists.pat reads n) (pat_starts starts n)
unfolding pat_starts pat_lists.pat pat_lists.array_pat pat_lists.rest_pat pat_lists.object_pat pat_lists.assign_pat leads begins_as
pat_begins reads starts law (pats.Ident n) = binding_begins reads n
pat_begins reads starts law (pats.Array n) = begins_then _ _ _ (begins_mark _ false)
pat_begins reads starts law (pats.Rest n) = begins_then _ _ _ (begins_mark _ false)
pat_begins reads starts law (pats.Object n) = begins_then _ _ _ (begins_mark _ false)
pat_begins reads starts law (pats.Assign n) = begins_then _ _ _ (law n.left.node.value Pattern refl)
pat_begins reads starts law (pats.Invalid n) = begins_never _
pat_begins reads starts law (pats.Expr n) = law n.node.value Expression refl

plain_parameter_begins : {X : Type 0} (reads : X → Role → Phrase) (starts : X → Bool) (n : Pat X) → Begins (pat_lists.plain_parameter reads n) (pat_starts starts n)
unfolding pat_starts pat_lists.plain_parameter pat_lists.plain_name
plain_parameter_begins reads starts (pats.Ident n) = unless_begins (n.id.optional || is_some n.type_ann) _ _ (binding_begins reads n)
plain_parameter_begins reads starts n = begins_never _

begins_key : (at : BytePos) (bytes : List ℕ) → Begins (KeyOf at bytes) true
unfolding Generates
begins_key at bytes = record { some = λ s k. nothing_first _ [] k; joins = λ s y ys k j. refl }

prop_name_begins : {X : Type 0} (reads : X → Role → Phrase) (n : PropName X) → Begins (key_lists.prop_name reads n) (prop_name_starts n)
unfolding prop_name_starts key_lists.prop_name lit_lists.str_lit lit_lists.string_token lit_lists.number lit_lists.big_int key_lists.computed_prop_name joins_a_word
prop_name_begins reads (prop_names.Ident n) = begins_key _ _
prop_name_begins reads (prop_names.Str n) = begins_where _ _ _ (begins_other _ false refl)
prop_name_begins reads (prop_names.Num n) = begins_number n.value.value n.value.raw
prop_name_begins reads (prop_names.BigInt n) = begins_where _ _ _ (begins_signed n.value.negative _)
prop_name_begins reads (prop_names.Computed n) = begins_then _ _ _ (begins_mark _ false)

part_begins : {X : Type 0} (reads : X → Role → Phrase) (starts : X → Bool) → Begin reads starts → (n : ExprPart X) (role : Role) → leads role ≡ true → Begins (part_lists.expr_part reads n role) (begins_as role (expr_part_starts starts n))
unfolding leads begins_as part_lists.expr_part expr_part_starts prop_lists.object_lit call_lists.chain_call template_lists.tpl
part_begins reads starts law (expr_parts.Pat n) Pattern h = pat_begins reads starts law n
part_begins reads starts law (expr_parts.Pat n) PlainParameter h = plain_parameter_begins reads starts n
part_begins reads starts law (expr_parts.ObjectLit n) ObjectLiteral h = begins_then _ _ _ (begins_mark _ false)
part_begins reads starts law (expr_parts.PropName n) PropertyName h = prop_name_begins reads n
part_begins reads starts law (expr_parts.OptCall n) (ChainCall optional) h = begins_then _ _ _ (law n.callee.node.value IsCallee refl)
part_begins reads starts law (expr_parts.AssignTarget n) AssignmentTarget h = target_begins reads starts law n
part_begins reads starts law (expr_parts.Tpl n) Template h = tpl_begins (call_lists.value_at reads) (template_lists.is_counted n.exprs.items n.quasis.items) false n.exprs.items n.quasis.items
part_begins reads starts law (expr_parts.Tpl n) TaggedTemplate h = tpl_begins (call_lists.value_at reads) (template_lists.is_counted n.exprs.items n.quasis.items) true n.exprs.items n.quasis.items
part_begins reads starts law n role h = begins_never _

stmt_part_begins : {X : Type 0} (reads : X → Role → Phrase) (starts : X → Bool) → Begin reads starts → (n : StmtPart X) (role : Role) → leads role ≡ true → Begins (part_lists.stmt_part reads n role) (begins_as role (stmt_part_starts n))
unfolding leads begins_as part_lists.stmt_part stmt_part_starts function_lists.function function_lists.function_head stmt_lists.block_stmt
stmt_part_begins reads starts law (stmt_parts.Function n) Function h = function_begins reads starts law (function_lists.is_some_listed n.value.decorators.items) n.value.type_params _
stmt_part_begins reads starts law (stmt_parts.Function n) FunctionHead h = function_head_begins n.value n.value.is_async _
stmt_part_begins reads starts law (stmt_parts.Function n) MethodHead h = absurd (true≢false (sym h))
stmt_part_begins reads starts law (stmt_parts.Function n) MethodDecorators h = absurd (true≢false (sym h))
stmt_part_begins reads starts law (stmt_parts.Function n) MethodTail h = absurd (true≢false (sym h))
stmt_part_begins reads starts law (stmt_parts.Function n) AccessorTail h = absurd (true≢false (sym h))
stmt_part_begins reads starts law (stmt_parts.Decl n) ExportedHead h = absurd (true≢false (sym h))
stmt_part_begins reads starts law (stmt_parts.Decl n) ExportedTail h = absurd (true≢false (sym h))
stmt_part_begins reads starts law (stmt_parts.ModuleDecl n) ModuleDeclaration h = absurd (true≢false (sym h))
stmt_part_begins reads starts law (stmt_parts.Class n) ClassHead h = absurd (true≢false (sym h))
stmt_part_begins reads starts law (stmt_parts.Class n) ClassWord h = class_word_begins n.value
stmt_part_begins reads starts law (stmt_parts.Class n) ClassTail h = absurd (true≢false (sym h))
stmt_part_begins reads starts law (stmt_parts.ClassMember n) Member h = absurd (true≢false (sym h))
stmt_part_begins reads starts law (stmt_parts.BlockStmt n) Block h = begins_then _ _ _ (begins_mark _ false)
stmt_part_begins reads starts law (stmt_parts.Decl n) Declaration h = decl_begins reads starts law n
stmt_part_begins reads starts law (stmt_parts.VarDecl n) VariableDeclaration h = var_decl_begins reads n
stmt_part_begins reads starts law n role h = begins_never _

-- `<` of a tag is no word
open_begins : (is_child : Bool) → Begins (jsx_lists.open_mark is_child (codes "<")) false
unfolding jsx_lists.open_mark tokens.child_open joins_a_word
open_begins true = begins_other _ false refl
open_begins false = begins_mark _ false

opening_begins : {X : Type 0} (reads : X → Role → Phrase) (is_child : Bool) (n : JSXOpeningElement X) → Begins (jsx_lists.jsx_opening_element reads is_child n) false
unfolding jsx_lists.jsx_opening_element
opening_begins reads is_child n = begins_then _ _ _ (open_begins is_child)

jsx_begins : {X : Type 0} (reads : X → Role → Phrase) (n : JSXPart X) (role : Role) → leads role ≡ true → Begins (jsx_lists.jsx_part reads n role) (begins_as role false)
unfolding leads begins_as jsx_lists.jsx_part jsx_lists.jsx_element jsx_lists.jsx_fragment jsx_lists.jsx_opening_fragment
jsx_begins reads (jsx_parts.JSXElement n) Element h = begins_then _ _ _ (opening_begins reads false n.value.opening)
jsx_begins reads (jsx_parts.JSXElement n) Child h = begins_then _ _ _ (opening_begins reads true n.value.opening)
jsx_begins reads (jsx_parts.JSXFragment n) Element h = begins_then _ _ _ (begins_then _ _ _ (open_begins false))
jsx_begins reads (jsx_parts.JSXFragment n) Child h = begins_then _ _ _ (begins_then _ _ _ (open_begins true))
jsx_begins reads (jsx_parts.JSXObject n) TagObject h = absurd (true≢false (sym h))
jsx_begins reads n role h = begins_never _

-- of types none is asked how it begins
ts_begins : {X : Type 0} (reads : X → Role → Phrase) (n : TsPart X) (role : Role) → leads role ≡ true → Begins (part_lists.ts_part reads n role) (begins_as role false)
unfolding leads begins_as part_lists.ts_part ts_type_param_decl
ts_begins reads (ts_parts.TsType n) AnyType h = absurd (true≢false (sym h))
ts_begins reads (ts_parts.TsTypeAnn n) Annotation h = absurd (true≢false (sym h))
ts_begins reads (ts_parts.TsTypeParamDecl n) TypeParameters h = begins_then _ _ _ (begins_mark _ _)
ts_begins reads (ts_parts.TsTypeParamInstantiation n) TypeArguments h = absurd (true≢false (sym h))
ts_begins reads (ts_parts.TsFnParam n) SignatureParameter h = absurd (true≢false (sym h))
ts_begins reads (ts_parts.TsInterfaceBody n) InterfaceBody h = absurd (true≢false (sym h))
ts_begins reads (ts_parts.TsEntityName n) EntityName h = absurd (true≢false (sym h))
ts_begins reads (ts_parts.TsNamespaceBody n) NamespaceBody h = absurd (true≢false (sym h))
ts_begins reads (ts_parts.TsNamespaceBody n) DottedBody h = absurd (true≢false (sym h))
ts_begins reads n role h = begins_never _

node_begins : {X : Type 0} (reads : X → Role → Phrase) (starts : X → Bool) → Begin reads starts → (n : AnyNode-F X) (role : Role) → leads role ≡ true → Begins (node_phrase reads n role) (begins_as role (node_starts starts n))
unfolding begins_as node_phrase node_starts lists.member_expr lists.chain_member leads
node_begins reads starts law (nodes.Expr n) Expression h = expr_begins reads starts law n
node_begins reads starts law (nodes.Expr n) IsCallee h = callee_expr_begins reads starts law n
node_begins reads starts law (nodes.Stmt n) Statement h = stmt_begins reads starts law n
node_begins reads starts law (nodes.MemberExpr n) MemberExpression h = begins_then _ _ _ (law n.obj.node.value IsCallee refl)
node_begins reads starts law (nodes.MemberExpr n) (ChainMember optional) h = begins_then _ _ _ (law n.obj.node.value IsCallee refl)
node_begins reads starts law (nodes.Expr n) FieldValue h = absurd (true≢false (sym h))
node_begins reads starts law (nodes.ExprPart n) role h = part_begins reads starts law n role h
node_begins reads starts law (nodes.StmtPart n) role h = stmt_part_begins reads starts law n role h
node_begins reads starts law (nodes.JSXPart n) role h = jsx_begins reads n role h
node_begins reads starts law (nodes.TsPart n) role h = ts_begins reads n role h
node_begins reads starts law n role h = begins_never _

-- ---- whole nodes

both : (f g : Phrase) (b c : Bool) → f ≡ g → b ≡ c → Begins g c → Begins f b
both f g b c e d h = subst (λ z. Begins z b) (sym e) (subst (λ z. Begins g z) (sym d) h)

abbrev Law : AnyNode → Type 0
Law n = (role : Role) → leads role ≡ true → Begins (phrase n role) (begins_as role (any_starts n))

abbrev Lawful : Type 0
Lawful = Such the_family (claims Law) member-AnyNode

begins : Begin phrase any_starts
begins = ind-AnyNode Law (λ x y q. subst (λ z. Law (roll-AnyNode z)) q (λ role h.
    both _ _ _ _ (phrase_of {X = Lawful} (λ z. z.0) y role) (ap (begins_as role) (starts_of {X = Lawful} (λ z. z.0) y))
    (node_begins {X = Lawful} (λ z. phrase z.0) (λ z. any_starts z.0) (λ z. z.1) y role h)))

-- Where an expression begins with a word, a name or a number, it is said to begin with a character of a name.
pub first_joins : (n : Expr AnyNode) (s : Settings) (x : Token) (xs : List Token) → Generates s (expr_phrase n) (x ∷ xs) → joins_a_word x.kind ≡ true → expr_starts any_starts n ≡ true
first_joins n s x xs k j = (expr_begins phrase any_starts begins n).joins s x xs k j
