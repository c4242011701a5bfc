-- Operators, literals and templates begin with no token that a lookahead restriction tells.
use Rattle.std.proofs.Common.{◌≡◌, Bool, true, false, cond, codes, refl, List, [], ◌∷◌, Option, Some, None}
use Rattle.std.specs.declared.string.String.{String}
use Rattle.swc_ecma_codegen_common.specs.Operators.{assign_text, binary_text, unary_text, update_text}
use Rattle.swc_ecma_codegen_common.specs.declared.decimals.Decimal.{Decimal}
use Rattle.swc_ecma_codegen_common.specs.declared.operators.AssignOp.{AssignOp}
use Rattle.swc_ecma_codegen_common.specs.declared.operators.AssignOp.TheVariants as assign
use Rattle.swc_ecma_codegen_common.specs.declared.operators.BinaryOp.{BinaryOp}
use Rattle.swc_ecma_codegen_common.specs.declared.operators.BinaryOp.TheVariants as binary
use Rattle.swc_ecma_codegen_common.specs.declared.operators.UnaryOp.{UnaryOp}
use Rattle.swc_ecma_codegen_common.specs.declared.operators.UnaryOp.TheVariants as unary
use Rattle.swc_ecma_codegen_common.specs.declared.operators.UpdateOp.{UpdateOp}
use Rattle.swc_ecma_codegen_common.specs.declared.operators.UpdateOp.TheVariants as update
use Rattle.swc_ecma_codegen_tree.specs.declared.exprs.MetaPropKind.{MetaPropKind}
use Rattle.swc_ecma_codegen_tree.specs.declared.exprs.MetaPropKind.TheVariants as meta_props
use Rattle.swc_ecma_codegen_tree.specs.declared.exprs.TplElement.{TplElement}
use Rattle.swc_ecma_codegen_tree.specs.declared.lits.Lit.{Lit}
use Rattle.swc_ecma_codegen_tree.specs.declared.lits.Lit.TheVariants as lits
use Rattle.swc_ecma_codegen_tree.specs.declared.lits.NumberValue.{NumberValue}
use Rattle.swc_ecma_codegen_tree.specs.declared.lits.NumberValue.TheVariants.{Finite, Infinity, NegInfinity, NaN}
use Rattle.swc_ecma_codegen_grammar.specs.Phrases.{Phrase, Never, where_, word, Generates}
use Rattle.swc_ecma_codegen_grammar.specs.Settings.{Settings}
use Rattle.swc_ecma_codegen_grammar.specs.Tokens.{token_of}
use Rattle.swc_ecma_codegen_grammar.specs.Tokens as tokens
use Rattle.swc_ecma_codegen_grammar.specs.ExprPhrases.{unary_op, update_op, binary_op, assign_op, meta_prop}
use Rattle.swc_ecma_codegen_grammar.specs.LitPhrases.{after_sign, string_token, str_lit, bool_lit, null_lit, number_token, finite, infinity, without_raw, number_of, number, big_int_token, big_int, regex, lit}
use Rattle.swc_ecma_codegen_grammar.specs.TemplatePhrases.{part_kind, part_phrase, tpl_element, tpl_parts}
use Rattle.swc_ecma_codegen_syntax.specs.Lookahead.{Sign, AnyToken, sign, sign_of, word_sign, mark_sign}
use Rattle.swc_ecma_codegen_syntax.proofs.Beginnings.{First, first_one, first_then}

-- ---- operators

pub unary_any : (op : UnaryOp) → sign (unary_op op) ≡ AnyToken
unfolding sign sign_of word_sign mark_sign unary_op unary_text tokens.word tokens.punctuator
unary_any unary.Minus = refl
unary_any unary.Plus = refl
unary_any unary.Bang = refl
unary_any unary.Tilde = refl
unary_any unary.TypeOf = refl
unary_any unary.Void = refl
unary_any unary.Delete = refl

pub update_any : (op : UpdateOp) → sign (update_op op) ≡ AnyToken
unfolding sign sign_of mark_sign update_op update_text tokens.punctuator
update_any update.PlusPlus = refl
update_any update.MinusMinus = refl

pub binary_any : (op : BinaryOp) → sign (binary_op op) ≡ AnyToken
unfolding sign sign_of word_sign mark_sign binary_op binary_text tokens.word tokens.punctuator
binary_any binary.EqEq = refl
binary_any binary.NotEq = refl
binary_any binary.EqEqEq = refl
binary_any binary.NotEqEq = refl
binary_any binary.Lt = refl
binary_any binary.LtEq = refl
binary_any binary.Gt = refl
binary_any binary.GtEq = refl
binary_any binary.LShift = refl
binary_any binary.RShift = refl
binary_any binary.ZeroFillRShift = refl
binary_any binary.Add = refl
binary_any binary.Sub = refl
binary_any binary.Mul = refl
binary_any binary.Div = refl
binary_any binary.Mod = refl
binary_any binary.BitOr = refl
binary_any binary.BitXor = refl
binary_any binary.BitAnd = refl
binary_any binary.LogicalOr = refl
binary_any binary.LogicalAnd = refl
binary_any binary.In = refl
binary_any binary.InstanceOf = refl
binary_any binary.Exp = refl
binary_any binary.NullishCoalescing = refl

pub assign_any : (op : AssignOp) → sign (assign_op op) ≡ AnyToken
unfolding sign sign_of mark_sign assign_op assign_text tokens.punctuator
assign_any assign.Assign = refl
assign_any assign.AddAssign = refl
assign_any assign.SubAssign = refl
assign_any assign.MulAssign = refl
assign_any assign.DivAssign = refl
assign_any assign.ModAssign = refl
assign_any assign.LShiftAssign = refl
assign_any assign.RShiftAssign = refl
assign_any assign.ZeroFillRShiftAssign = refl
assign_any assign.BitOrAssign = refl
assign_any assign.BitXorAssign = refl
assign_any assign.BitAndAssign = refl
assign_any assign.ExpAssign = refl
assign_any assign.AndAssign = refl
assign_any assign.OrAssign = refl
assign_any assign.NullishAssign = refl

pub meta_first : (s : Settings) (kind : MetaPropKind) → First s (meta_prop kind) AnyToken
unfolding meta_prop sign sign_of word_sign tokens.word
meta_first s meta_props.NewTarget = first_then s _ _ AnyToken (first_one s _ AnyToken refl)
meta_first s meta_props.ImportMeta = first_then s _ _ AnyToken (first_one s _ AnyToken refl)

-- ---- literals

first_where : (s : Settings) (b : Bool) (p : Phrase) (z : Sign) → First s p z → First s (where_ b p) z
unfolding where_ Generates
first_where s true p z first = first
first_where s false p z first = λ ts h. absurd h

first_never : (s : Settings) (z : Sign) → First s Never z
unfolding Generates
first_never s z = λ ts h. absurd h

sign_first : (s : Settings) (negative : Bool) (p : Phrase) → First s p AnyToken → First s (after_sign negative p) AnyToken
unfolding after_sign sign sign_of mark_sign tokens.punctuator
sign_first s true p first = first_then s _ p AnyToken (first_one s _ AnyToken refl)
sign_first s false p first = first

finite_first : {Z : Type 0} (s : Settings) (d : Decimal) (raw : Option (String Z)) → First s (finite d raw) AnyToken
unfolding finite number_token sign sign_of
finite_first s d None = sign_first s d.negative _ (first_one s _ AnyToken refl)
finite_first s d (Some raw) = first_where s _ _ AnyToken (first_one s _ AnyToken refl)

infinity_first : {Z : Type 0} (s : Settings) (raw : Option (String Z)) → First s (infinity raw) AnyToken
unfolding infinity sign sign_of word_sign tokens.name token_of
infinity_first s None = first_one s _ AnyToken refl
infinity_first s (Some raw) = first_where s _ _ AnyToken (first_one s _ AnyToken refl)

raw_first : {Z : Type 0} (s : Settings) (raw : Option (String Z)) (p : Phrase) → First s p AnyToken → First s (without_raw raw p) AnyToken
unfolding without_raw
raw_first s None p first = first
raw_first s (Some raw) p first = first_never s AnyToken

number_first : {Z : Type 0} (s : Settings) (value : NumberValue) (raw : Option (String Z)) → First s (number_of value raw) AnyToken
unfolding number_of sign sign_of word_sign tokens.name
number_first s (Finite d) raw = finite_first s d raw
number_first s Infinity raw = infinity_first s raw
number_first s NegInfinity raw = raw_first s raw _ (sign_first s true _ (first_one s _ AnyToken refl))
number_first s NaN raw = raw_first s raw _ (first_one s _ AnyToken refl)

bool_first : (s : Settings) (b : Bool) → First s (word (cond b (codes "true") (codes "false"))) AnyToken
unfolding sign sign_of word_sign tokens.word
bool_first s true = first_one s _ AnyToken refl
bool_first s false = first_one s _ AnyToken refl

pub lit_first : (s : Settings) (n : Lit) → First s (lit n) AnyToken
unfolding lit str_lit string_token bool_lit null_lit number big_int big_int_token regex token_of sign sign_of word_sign tokens.word
lit_first s (lits.Str n) = first_where s _ _ AnyToken (first_one s _ AnyToken refl)
lit_first s (lits.Bool n) = bool_first s n.value
lit_first s (lits.Null n) = first_one s _ AnyToken refl
lit_first s (lits.Num n) = number_first s n.value.value n.value.raw
lit_first s (lits.BigInt n) = first_where s _ _ AnyToken (sign_first s n.value.negative _ (first_one s _ AnyToken refl))
lit_first s (lits.Regex n) = first_where s _ _ AnyToken (first_one s _ AnyToken refl)
lit_first s (lits.JSXText n) = first_never s AnyToken

-- ---- templates

pub parts_first : {A : Type 0} (s : Settings) (each : A → Phrase) (tagged : Bool) (es : List A) (qs : List TplElement) → First s (tpl_parts each tagged es qs) AnyToken
unfolding tpl_parts tpl_element part_phrase part_kind token_of sign sign_of
parts_first s each tagged es [] = first_never s AnyToken
parts_first s each tagged es (q ∷ qs) = first_then s _ _ AnyToken (first_where s _ _ AnyToken (first_one s _ AnyToken refl))

pub first_cond : (s : Settings) (b : Bool) (p : Phrase) (z : Sign) → First s p z → First s (cond b p Never) z
first_cond s true p z first = first
first_cond s false p z first = first_never s z
