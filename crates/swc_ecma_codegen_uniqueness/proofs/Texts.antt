-- One text has one parse tree, but for the places where its lists of tokens may part.
use Rattle.std.proofs.Common.{◌≡◌, ℕ, true, ◌⊎◌, inl, inr, List, [], ◌∷◌, ◌++◌, refl, sym, ap, ◌∙◌, subst}
use Rattle.std.specs.Prelude.{codes}
use Rattle.swc_ecma_codegen_tree.specs.declared.links.AnyNode.{AnyNode}
use Rattle.swc_ecma_codegen_tree.specs.declared.exprs.Expr.{Expr}
use Rattle.swc_ecma_codegen_tree.specs.declared.programs.Program.{Program}
use Rattle.swc_ecma_codegen_grammar.specs.declared.kinds.Kind.TheVariants as kinds
use Rattle.swc_ecma_codegen_grammar.specs.declared.kinds.TemplatePart.{TemplatePart}
use Rattle.swc_ecma_codegen_grammar.specs.Reads.{Reads}
use Rattle.swc_ecma_codegen_grammar.specs.Settings.{Settings}
use Rattle.swc_ecma_codegen_grammar.specs.Tokens.{Token, ending, punctuator}
use Rattle.swc_ecma_codegen_grammar.specs.Trivia.{Remark}
use Rattle.swc_ecma_codegen_syntax.specs.declared.nonterminals.Nonterminal.TheVariants as nt
use Rattle.swc_ecma_codegen_syntax.specs.declared.parameters.Parameters.{Parameters}
use Rattle.swc_ecma_codegen_syntax.specs.Derives.{DerivesCoreExpr, DerivesCoreProgram}
use Rattle.swc_ecma_codegen_uniqueness.specs.ParseTrees.{End, Read, BlockStmt, tokens_of}
use Rattle.swc_ecma_codegen_uniqueness.specs.Parses.{expr_parse, program_parse}
use Rattle.swc_ecma_codegen_uniqueness.specs.Parting.{Parting}
use Rattle.swc_ecma_codegen_uniqueness.specs.Words.{named_by, as_names, with_names}
use Rattle.swc_ecma_codegen_uniqueness.proofs.Classes.{Class, RegexToken, class, class_of}
use Rattle.swc_ecma_codegen_uniqueness.proofs.Controls.{Control, InParen, InList, Statement}
use Rattle.swc_ecma_codegen_uniqueness.proofs.Machine.{Frame, is_fail, run, reads}
use Rattle.swc_ecma_codegen_uniqueness.proofs.Apart.{Rivals, divides, divides_in_place, closes, finishes}
use Rattle.swc_ecma_codegen_uniqueness.proofs.Goals.{Leads, from, none_part, one_list}
use Rattle.swc_ecma_codegen_uniqueness.proofs.Layers.{all_good}
use Rattle.swc_ecma_codegen_uniqueness.proofs.Parsed.{tokens_before}
use Rattle.swc_ecma_codegen_uniqueness.proofs.Programs.{brace, program_good, one_program_named}
use Rattle.swc_ecma_codegen_uniqueness.proofs.Unique.{expr_runs, one_parse_named}

-- ---- programs

-- where a program is read, and what is read behind it
abbrev in_program : List Control
in_program = Statement (InList BlockStmt) ∷ InParen ∷ []

abbrev parenthesis : Token
parenthesis = punctuator (codes ")")

abbrev begun : Control → Frame
begun c = record { control = c; so_far = λ rest. rest; other = λ rest. rest }

program_leads : {s : Settings} (n : Program AnyNode) {ts : List Token} → DerivesCoreProgram s n ts → Leads in_program (brace ∷ parenthesis ∷ []) ts
unfolding punctuator tokens_of
program_leads {s = s} n d =
    ap (λ us. is_fail (run us (from in_program))) (sym (tokens_before d (Read brace End) (parenthesis ∷ [])))
    ∙ ap is_fail (reads (program_good s.minify n d (all_good d) refl) (λ rest. rest) (λ rest. rest) (begun InParen) [] parenthesis [] refl)

pub one_text : (s t : Settings) (a b : Program AnyNode) (xs ys : List Token) (text : List ℕ) (cs ds : List Remark) → DerivesCoreProgram s a xs → DerivesCoreProgram t b ys → Reads text xs cs → Reads text ys ds →
    ((as_names xs ≡ as_names ys) × (with_names (program_parse s a) ≡ with_names (program_parse t b))) ⊎ Parting (as_names xs) (as_names ys)
unfolding punctuator as_names named_by
one_text s t a b xs ys text cs ds d e h k = elim (one_list in_program brace (parenthesis ∷ []) xs ys text cs ds refl refl refl (program_leads a d) (program_leads b e) h k) [
  | inl f ↦ inl (f, one_program_named s t a b xs ys d e f)
  | inr z ↦ inr z
]

-- ---- expressions

pub one_text_of_exprs : (s t : Settings) (c e : Parameters) (a b : Expr AnyNode) (xs ys : List Token) (text : List ℕ) (cs ds : List Remark) → DerivesCoreExpr s nt.Expression c a xs → DerivesCoreExpr t nt.Expression e b ys → Reads text xs cs →
    Reads text ys ds → ((as_names xs ≡ as_names ys) × (with_names (expr_parse s c a) ≡ with_names (expr_parse t e b))) ⊎ Parting (as_names xs) (as_names ys)
unfolding punctuator as_names named_by
one_text_of_exprs s t c e a b xs ys text cs ds x y h k = elim (one_list (InParen ∷ []) parenthesis [] xs ys text cs ds refl refl refl (expr_runs a x) (expr_runs b y) h k) [
  | inl f ↦ inl (f, one_parse_named s t c e a b xs ys x y f)
  | inr z ↦ inr z
]

-- ---- goals of the lexical grammar, by the tokens before

abbrev Next : Settings → Program AnyNode → List Token → Token → List Token → Type 0
Next s a xs x ys = DerivesCoreProgram s a (xs ++ (x ∷ ys))

one_next : (s t : Settings) (a b : Program AnyNode) (xs ys zs : List Token) (x y : Token) → Rivals (class y) (class x) → Next s a xs x ys → Next t b xs y zs → ⊥
one_next s t a b xs ys zs x y r d e = none_part in_program (brace ∷ parenthesis ∷ []) (xs ++ (y ∷ zs)) (xs ++ (x ∷ ys)) xs zs ys y x (program_leads b e) (program_leads a d) refl refl r

rivals : (x y : Token) {l r : Class} → class y ≡ l → class x ≡ r → Rivals l r → Rivals (class y) (class x)
rivals x y {l = l} e d i = subst (λ z. Rivals z (class x)) (sym e) (subst (λ z. Rivals l z) (sym d) i)

regex_class : (x : Token) → x.kind ≡ kinds.Regex → class x ≡ RegexToken
regex_class x k = ap (λ z. class_of z x.value) k

pub one_goal : (s t : Settings) (a b : Program AnyNode) (xs ys zs : List Token) (x y : Token) → x.kind ≡ kinds.Regex → (y ≡ punctuator (codes "/")) ⊎ (y ≡ punctuator (codes "/=")) → Next s a xs x ys → Next t b xs y zs → ⊥
unfolding punctuator
one_goal s t a b xs ys zs x y k (inl e) d f = one_next s t a b xs ys zs x y (rivals x y (ap class e) (regex_class x k) divides) d f
one_goal s t a b xs ys zs x y k (inr e) d f = one_next s t a b xs ys zs x y (rivals x y (ap class e) (regex_class x k) divides_in_place) d f

pub one_template : (s t : Settings) (a b : Program AnyNode) (xs ys zs : List Token) (x y : Token) (part : TemplatePart) → x.kind ≡ kinds.TemplateRest part → y ≡ punctuator (codes "}") → Next s a xs x ys → Next t b xs y zs → ⊥
unfolding punctuator
one_template s t a b xs ys zs x y part k e d f = one_next s t a b xs ys zs x y (rivals x y (ap class e) (ap (λ z. class_of z x.value) k) closes) d f

pub one_semicolon : (s t : Settings) (a b : Program AnyNode) (xs ys zs : List Token) (x y : Token) → x ≡ punctuator (codes ";") → y ≡ ending → Next s a xs x ys → Next t b xs y zs → ⊥
unfolding punctuator ending
one_semicolon s t a b xs ys zs x y k e d f = one_next s t a b xs ys zs x y (rivals x y (ap class e) (ap class k) finishes) d f
