-- Names, literals, and what is assigned to are read as they are.
use Rattle.std.proofs.Common.{◌≡◌, ℕ, Bool, true, false, not, List, Option, Some, None, refl, sym, ap, ◌∙◌, subst}
use Rattle.std.specs.Prelude.{codes, is_some, string_bytes, if◌then◌else◌}
use Rattle.std.specs.declared.string.String.{String}
use Rattle.std.proofs.lemmas.Bool.{true≢false, and_parts}
use Rattle.swc_ecma_codegen_common.specs.declared.positions.BytePos.{BytePos}
use Rattle.swc_ecma_codegen_common.specs.declared.decimals.Decimal.{Decimal}
use Rattle.swc_ecma_codegen_tree.specs.Links.{TsTypeAnnBox}
use Rattle.swc_ecma_codegen_tree.specs.declared.links.AnyNode.{AnyNode}
use Rattle.swc_ecma_codegen_tree.specs.declared.idents.Ident.{Ident}
use Rattle.swc_ecma_codegen_tree.specs.declared.idents.BindingIdent.{BindingIdent}
use Rattle.swc_ecma_codegen_tree.specs.declared.lits.Lit.{Lit}
use Rattle.swc_ecma_codegen_tree.specs.declared.lits.Lit.TheVariants as lits
use Rattle.swc_ecma_codegen_tree.specs.declared.lits.BigInt.{BigInt}
use Rattle.swc_ecma_codegen_tree.specs.declared.lits.NumberValue.{NumberValue}
use Rattle.swc_ecma_codegen_tree.specs.declared.lits.NumberValue.TheVariants.{Finite, Infinity, NegInfinity, NaN}
use Rattle.swc_ecma_codegen_tree.specs.declared.lits.Str.{Str}
use Rattle.swc_ecma_codegen_tree.specs.declared.exprs.MetaPropKind.{MetaPropKind}
use Rattle.swc_ecma_codegen_tree.specs.declared.exprs.MetaPropKind.TheVariants as meta_props
use Rattle.swc_ecma_codegen_tree.specs.declared.exprs.ParenExpr.{ParenExpr}
use Rattle.swc_ecma_codegen_tree.specs.declared.pats.SimpleAssignTarget.{SimpleAssignTarget}
use Rattle.swc_ecma_codegen_tree.specs.declared.pats.SimpleAssignTarget.TheVariants as simple_targets
use Rattle.swc_ecma_codegen_grammar.specs.Phrases.{Generates, Nothing, One, NameOf, Then, where_, mark}
use Rattle.swc_ecma_codegen_grammar.specs.Phrases as phrases
use Rattle.swc_ecma_codegen_grammar.specs.ExprPhrases.{meta_prop}
use Rattle.swc_ecma_codegen_grammar.specs.LitPhrases.{lit, str_lit, bool_lit, null_lit, number, number_of, finite, infinity, big_int, regex, after_sign, string_token, number_token, big_int_token}
use Rattle.swc_ecma_codegen_grammar.specs.NamePhrases.{ident}
use Rattle.swc_ecma_codegen_grammar.specs.Names.{name_value}
use Rattle.swc_ecma_codegen_grammar.specs.Settings.{Settings}
use Rattle.swc_ecma_codegen_grammar.specs.SpelledNames.{spelled_name}
use Rattle.swc_ecma_codegen_grammar.specs.Tokens.{Token, token_of, word}
use Rattle.swc_ecma_codegen_grammar.specs.Tokens as tokens
use Rattle.swc_ecma_codegen_syntax.specs.declared.nonterminals.Nonterminal.{Nonterminal}
use Rattle.swc_ecma_codegen_syntax.specs.declared.nonterminals.Nonterminal.TheVariants as nt
use Rattle.swc_ecma_codegen_syntax.specs.declared.parameters.Parameters.{Parameters}
use Rattle.swc_ecma_codegen_syntax.specs.Forms.{is_met}
use Rattle.swc_ecma_codegen_syntax.specs.NameForms.{name_form, has_no_escape, is_literal_value, is_literal, lit_form}
use Rattle.swc_ecma_codegen_syntax.specs.MemberForms.{annotation_form}
use Rattle.swc_ecma_codegen_syntax.specs.PatForms.{binding_form}
use Rattle.swc_ecma_codegen_syntax.specs.TargetForms.{paren_target_form, simple_target_form}
use Rattle.swc_ecma_codegen_syntax.specs.Derives.{Derives, fixed, part, simple, both, provided}
use Rattle.swc_ecma_codegen_syntax.specs.Verdicts.{core}
use Rattle.swc_ecma_codegen_uniqueness.specs.ParseTrees.{ParseTree, End, Read, Ident as a_name, Lit as a_literal, MetaProp, Paren, simple_target_variant}
use Rattle.swc_ecma_codegen_uniqueness.specs.Parses.{placed, is_inlined}
use Rattle.swc_ecma_codegen_uniqueness.proofs.Classes.{LiteralToken, RegexToken, class, NameToken, ConstantWord}
use Rattle.swc_ecma_codegen_uniqueness.proofs.Controls.{starts}
use Rattle.swc_ecma_codegen_uniqueness.proofs.Moves.{started}
use Rattle.swc_ecma_codegen_uniqueness.proofs.TableLaws.{is_place}
use Rattle.swc_ecma_codegen_uniqueness.proofs.Machine.{Whole, Good}
use Rattle.swc_ecma_codegen_uniqueness.proofs.Shapes.{atom, parenthesized, new_target, import_meta}
use Rattle.swc_ecma_codegen_uniqueness.proofs.Reading.{read_phrase, derived_parse}
use Rattle.swc_ecma_codegen_uniqueness.proofs.Fits.{at_place, PlacedGood, AllGood, no_form}
use Rattle.swc_ecma_codegen_uniqueness.proofs.Linking.{where_read, target_member_good, super_good}
use Rattle.swc_ecma_codegen_uniqueness.proofs.Looks.{name_class}
use Rattle.swc_ecma_codegen_uniqueness.proofs.FreeNames.{free_name}
use Rattle.std.proofs.lemmas.Str.{IsUtf8-string_bytes}

-- ---- names

pub named_read : (s : Settings) (b : Bool) (at : BytePos) (bytes : List ℕ) (ts : List Token) (g : Generates s (Then (NameOf at bytes) (if b then mark (codes "?") else Nothing)) ts) → not b ≡ true →
    (rest : ParseTree) → read_phrase s (Then (NameOf at bytes) (if b then mark (codes "?") else Nothing)) ts g rest ≡ Read (tokens.name (name_value (spelled_name bytes))) rest
unfolding read_phrase
named_read s false at bytes ts g h rest = refl
named_read s true at bytes ts g h rest = absurd (true≢false (sym h))

pub name_read : {s : Settings} (c : Parameters) (n : Ident) {ts : List Token} (d : Derives core s (name_form c n) ts) (rest : ParseTree) → derived_parse d rest ≡ Read (tokens.name (name_value (spelled_name (string_bytes n.sym)))) rest
unfolding name_form ident is_met derived_parse
name_read c n (provided h (provided k (fixed g))) rest = named_read _ n.optional n.span.lo (string_bytes n.sym) _ g (and_parts (has_no_escape (string_bytes n.sym)) (not n.optional) k).1 rest

-- it is no reserved word
pub name_free : {s : Settings} (c : Parameters) (n : Ident) {ts : List Token} (d : Derives core s (name_form c n) ts) → class (tokens.name (name_value (spelled_name (string_bytes n.sym)))) ≡ NameToken
unfolding name_form is_met
name_free c n (provided h (provided k d)) =
    name_class (name_value (spelled_name (string_bytes n.sym))) (free_name c (string_bytes n.sym) (IsUtf8-string_bytes n.sym) h (and_parts (has_no_escape (string_bytes n.sym)) (not n.optional) k).0)

pub name_atom : (n : Nonterminal) → is_place n ≡ false → (text : List ℕ) → class (tokens.name text) ≡ NameToken → Good (Whole a_name n) (Read (tokens.name text) End)
name_atom n h text e = atom (tokens.name text) a_name n (ap starts e) h (ap started e)

pub name_good : {s : Settings} (c : Parameters) (n : Ident) {ts : List Token} (d : Derives core s (name_form c n) ts) → Good (Whole a_name nt.PrimaryExpression) (derived_parse d End)
name_good c n d = subst (λ z. Good (Whole a_name nt.PrimaryExpression) z) (sym (name_read c n d End)) (name_atom nt.PrimaryExpression refl _ (name_free c n d))

-- ---- literals

-- one token of a literal, before what comes behind it
pub record IsLiteral (f : ParseTree → ParseTree) : Type 0 where
  pub token : Token
  pub is : (rest : ParseTree) → f rest ≡ Read token rest
  pub literal : class token ≡ LiteralToken

one_literal : (t : Token) → class t ≡ LiteralToken → IsLiteral (Read t)
one_literal t e = record { token = t; is = λ rest. refl; literal = e }

where_literal : (s : Settings) (b : Bool) (t : Token) (ts : List Token) (g : Generates s (where_ b (One t)) ts) → class t ≡ LiteralToken → IsLiteral (read_phrase s (where_ b (One t)) ts g)
where_literal s b t ts g e = record { token = t; is = where_read s b t ts g; literal = e }

signed_literal : (s : Settings) (negative b : Bool) (t : Token) (ts : List Token) → not negative ≡ true → class t ≡ LiteralToken → (g : Generates s (where_ b (after_sign negative (One t))) ts) →
    IsLiteral (read_phrase s (where_ b (after_sign negative (One t))) ts g)
unfolding after_sign
signed_literal s true b t ts h e g = absurd (true≢false (sym h))
signed_literal s false b t ts h e g = where_literal s b t ts g e

unsigned_literal : (s : Settings) (negative : Bool) (t : Token) (ts : List Token) → not negative ≡ true → class t ≡ LiteralToken → (g : Generates s (after_sign negative (One t)) ts) →
    IsLiteral (read_phrase s (after_sign negative (One t)) ts g)
unfolding after_sign read_phrase
unsigned_literal s true t ts h e g = absurd (true≢false (sym h))
unsigned_literal s false t ts h e g = one_literal t e

finite_literal : (s : Settings) {Z : Type 0} (d : Decimal) (negative : Bool) (raw : Option (String Z)) (ts : List Token) → d.negative ≡ negative → not negative ≡ true → (g : Generates s (finite d raw) ts) →
    IsLiteral (read_phrase s (finite d raw) ts g)
unfolding finite after_sign number_token read_phrase
finite_literal s d negative (Some raw) ts q h g = where_literal s _ _ ts g refl
finite_literal s d negative None ts q h g = unsigned_literal s d.negative _ ts (ap not q ∙ h) refl g

pub number_literal : (s : Settings) {Z : Type 0} (v : NumberValue) (raw : Option (String Z)) (ts : List Token) → is_literal_value (is_some raw) v ≡ true → (g : Generates s (number_of v raw) ts) →
    IsLiteral (read_phrase s (number_of v raw) ts g)
unfolding number_of infinity is_literal_value token_of
number_literal s (Finite d) raw ts h g = finite_literal s d d.negative raw ts refl h g
number_literal s Infinity (Some raw) ts h g = where_literal s _ _ ts g refl
number_literal s Infinity None ts h g = absurd (true≢false (sym h))
number_literal s NegInfinity raw ts h g = absurd (true≢false (sym h))
number_literal s NaN raw ts h g = absurd (true≢false (sym h))

pub str_literal : (s : Settings) (n : Str) (ts : List Token) (g : Generates s (str_lit n) ts) → IsLiteral (read_phrase s (str_lit n) ts g)
unfolding str_lit string_token
str_literal s n ts g = where_literal s _ _ ts g refl

pub big_literal : (s : Settings) (n : BigInt) (ts : List Token) → not n.negative ≡ true → (g : Generates s (big_int n) ts) → IsLiteral (read_phrase s (big_int n) ts g)
unfolding big_int big_int_token
big_literal s n ts h g = signed_literal s n.negative _ _ ts h refl g

literal_good : {f : ParseTree → ParseTree} → IsLiteral f → Good (Whole a_literal nt.PrimaryExpression) (f End)
literal_good l = subst (λ z. Good (Whole a_literal nt.PrimaryExpression) z) (sym (l.is End)) (atom l.token a_literal nt.PrimaryExpression (ap starts l.literal) refl (ap started l.literal))

-- `true`, `false`, `null`
constant_good : (t : Token) → class t ≡ ConstantWord → Good (Whole a_literal nt.PrimaryExpression) (Read t End)
constant_good t e = atom t a_literal nt.PrimaryExpression (ap starts e) refl (ap started e)

bool_good : (s : Settings) (b : Bool) (ts : List Token) (g : Generates s (phrases.word (if b then codes "true" else codes "false")) ts) → Good (Whole a_literal nt.PrimaryExpression) (read_phrase s (phrases.word (if b then codes "true" else codes "false")) ts g End)
unfolding read_phrase word
bool_good s true ts g = constant_good _ refl
bool_good s false ts g = constant_good _ refl

-- a regular expression is no key, and stands where `/` doesn't
regex_good : (s : Settings) (b : Bool) (t : Token) (ts : List Token) (g : Generates s (where_ b (One t)) ts) → class t ≡ RegexToken → Good (Whole a_literal nt.PrimaryExpression) (read_phrase s (where_ b (One t)) ts g End)
regex_good s b t ts g e = subst (λ z. Good (Whole a_literal nt.PrimaryExpression) z) (sym (where_read s b t ts g End)) (atom t a_literal nt.PrimaryExpression (ap starts e) refl (ap started e))

lit_by : (s : Settings) (n : Lit) (ts : List Token) → is_literal n ≡ true → (g : Generates s (lit n) ts) → Good (Whole a_literal nt.PrimaryExpression) (read_phrase s (lit n) ts g End)
unfolding lit bool_lit null_lit number regex is_literal token_of word read_phrase Generates
lit_by s (lits.Str n) ts h g = literal_good (str_literal s n ts g)
lit_by s (lits.Bool n) ts h g = bool_good s n.value ts g
lit_by s (lits.Null n) ts h g = constant_good _ refl
lit_by s (lits.Num n) ts h g = literal_good (number_literal s n.value.value n.value.raw ts h g)
lit_by s (lits.BigInt n) ts h g = literal_good (big_literal s n.value ts h g)
lit_by s (lits.Regex n) ts h g = regex_good s _ _ ts g refl
lit_by s (lits.JSXText n) ts h g = absurd g

pub lit_good : {s : Settings} (n : Lit) {ts : List Token} (d : Derives core s (lit_form n) ts) → Good (Whole a_literal nt.PrimaryExpression) (derived_parse d End)
unfolding lit_form is_met derived_parse
lit_good {s = s} n {ts = ts} (provided h (fixed g)) = lit_by s n ts h g

-- ---- `new.target`, `import.meta`

pub meta_good : (s : Settings) (kind : MetaPropKind) (ts : List Token) (g : Generates s (meta_prop kind) ts) → Good (Whole MetaProp nt.MemberExpression) (read_phrase s (meta_prop kind) ts g End)
unfolding meta_prop read_phrase Generates
meta_good s meta_props.NewTarget ts g = new_target
meta_good s meta_props.ImportMeta ts g = import_meta

-- ---- what is assigned to

pub no_annotation : {s : Settings} (c : Parameters) (o : Option (TsTypeAnnBox AnyNode)) {ts : List Token} (d : Derives core s (annotation_form c o) ts) (rest : ParseTree) → derived_parse d rest ≡ rest
unfolding annotation_form is_met derived_parse read_phrase
no_annotation c None (fixed g) rest = refl
no_annotation c (Some n) (provided h d) rest = absurd (true≢false (sym h))

pub binding_read : {s : Settings} (c : Parameters) (n : BindingIdent AnyNode) {ts : List Token} (d : Derives core s (binding_form c n) ts) (rest : ParseTree) →
    derived_parse d rest ≡ Read (tokens.name (name_value (spelled_name (string_bytes n.id.sym)))) rest
unfolding binding_form derived_parse
binding_read c n (provided h (both d e)) rest = name_read c n.id d (derived_parse e rest) ∙ ap (Read (tokens.name (name_value (spelled_name (string_bytes n.id.sym))))) (no_annotation c n.type_ann e rest)

pub binding_free : {s : Settings} (c : Parameters) (n : BindingIdent AnyNode) {ts : List Token} (d : Derives core s (binding_form c n) ts) → class (tokens.name (name_value (spelled_name (string_bytes n.id.sym)))) ≡ NameToken
unfolding binding_form
binding_free c n (provided h (both d e)) = name_free c n.id d

pub binding_good : {s : Settings} (c : Parameters) (n : BindingIdent AnyNode) {ts : List Token} (d : Derives core s (binding_form c n) ts) → Good (Whole a_name nt.LeftHandSideExpression) (derived_parse d End)
binding_good c n d = subst (λ z. Good (Whole a_name nt.LeftHandSideExpression) z) (sym (binding_read c n d End)) (name_atom nt.LeftHandSideExpression refl _ (binding_free c n d))

paren_target_good : {s : Settings} (c : Parameters) (n : ParenExpr AnyNode) {ts : List Token} (d : Derives core s (paren_target_form c n) ts) → AllGood d → s.minify ≡ c.minify → Good (Whole Paren nt.LeftHandSideExpression) (derived_parse d End)
unfolding paren_target_form AllGood PlacedGood derived_parse read_phrase placed is_inlined
paren_target_good c n (both (fixed g) (both (simple k (part a sa d)) (fixed h))) (x, (o, y)) m = parenthesized nt.LeftHandSideExpression refl (at_place _ _ sa (o m))

pub simple_target_good : {s : Settings} (c : Parameters) (n : SimpleAssignTarget AnyNode) {ts : List Token} (d : Derives core s (simple_target_form c n) ts) → AllGood d → s.minify ≡ c.minify →
    Good (Whole (simple_target_variant n) nt.LeftHandSideExpression) (derived_parse d End)
unfolding simple_target_form simple_target_variant is_met
simple_target_good c (simple_targets.Ident n) d o m = binding_good c n d
simple_target_good c (simple_targets.Member n) d o m = target_member_good c n d o m
simple_target_good c (simple_targets.SuperProp n) d o m = super_good nt.LeftHandSideExpression refl c n d o m
simple_target_good c (simple_targets.Paren n) d o m = paren_target_good c n d o m
simple_target_good c (simple_targets.OptChain n) (provided h d) o m = absurd (true≢false (sym h))
simple_target_good c (simple_targets.Invalid n) (provided h d) o m = absurd (true≢false (sym h))
simple_target_good c n d o m = absurd (no_form d)
