-- Productions with nonterminals at their parts.
use Rattle.std.specs.Prelude.{ℕ, Bool, true, false, ◌&&◌, ◌||◌, not, codes, List, [], ◌∷◌, Option, Some, None, if◌then◌else◌}
use Rattle.swc_ecma_codegen_grammar.specs.Phrases.{Phrase, Closing, Never, Nothing, Then, CommaBefore, OptionalParentheses, Argument, Parameter, ◌>◌, mark}
use Rattle.swc_ecma_codegen_grammar.specs.FunctionPhrases.{is_never}
use Rattle.swc_ecma_codegen_grammar.specs.declared.roles.Role.{Role}
use Rattle.swc_ecma_codegen_grammar.specs.declared.roles.Role.TheVariants.{Expression, Pattern, Statement, PlainParameter}
use Rattle.swc_ecma_codegen_syntax.specs.declared.nonterminals.Nonterminal.{Nonterminal}
use Rattle.swc_ecma_codegen_syntax.specs.declared.nonterminals.Nonterminal.TheVariants as nt
use Rattle.swc_ecma_codegen_syntax.specs.declared.parameters.Parameters.{Parameters}
use Rattle.swc_ecma_codegen_syntax.specs.Parameters.{before}
use Rattle.swc_ecma_codegen_syntax.specs.declared.verdicts.Facts.{Facts}
use Rattle.swc_ecma_codegen_syntax.specs.Summary.{Summary, begins_in, empty_in, shape_in}
use Rattle.swc_ecma_codegen_syntax.specs.declared.verdicts.Shape.{Shape}
use Rattle.swc_ecma_codegen_syntax.specs.declared.verdicts.Shape.TheVariants as shapes
use Rattle.swc_ecma_codegen_syntax.specs.Shapes.{fits}
use Rattle.swc_ecma_codegen_syntax.specs.declared.verdicts.Verdict.{Verdict}
use Rattle.swc_ecma_codegen_syntax.specs.Nonterminals.{takes}
use Rattle.swc_ecma_codegen_syntax.specs.declared.lookahead.Lookahead.{Lookahead}
use Rattle.swc_ecma_codegen_syntax.specs.Lookahead.{excludes}
use Rattle.swc_ecma_codegen_syntax.specs.Verdicts.{Grammar, meet, by_place, by_rule, by_scope, by_core, standing, is_mended, holds_in}

-- what it means where a condition fails: parentheses mend it; nothing does; there is no production here; there is none in the core of the grammar
pub data Cure : Type 0 where
  ByPlace : Cure
  ByRule : Cure
  ByScope : Cure
  ByCore : Cure

-- any expression in parentheses is a decorator
unfoldable pub cure_of : Shape → Cure
cure_of shapes.Decorator = ByPlace
cure_of shape = ByRule

-- What has no parts; a part, by what a link holds, as a nonterminal with its parameters; an expression whose AssignmentTargetType is simple,
-- and which is no name unless `named`; a part of a shape; an expression or a pattern whose
-- tokens may not begin with what a lookahead restriction names; the only parameter of an arrow function, which stands in parentheses, or bare where
-- it is a name alone; one and then another; on a condition; a closing mark, and whether a comma may stand before
-- it, as in `[a,] = b`; what
-- may stand in parentheses that no production has; a statement, and the one right behind it.
pub data Form (X : Type 0) : Type 0 where
  Fixed : (phrase : Phrase) → Form X
  Part : (place : Nonterminal) → (parameters : Parameters) → (role : Role) → (node : X) → Form X
  Simple : (named : Bool) → (place : Nonterminal) → (parameters : Parameters) → (node : X) → Form X
  Shaped : (shape : Shape) → (place : Nonterminal) → (parameters : Parameters) → (role : Role) → (node : X) → Form X
  Restricted : (lookahead : Lookahead) → (place : Nonterminal) → (parameters : Parameters) → (as_pattern : Bool) → (node : X) → Form X
  Lone : (place : Nonterminal) → (parameters : Parameters) → (node : X) → Form X
  Both : (first second : Form X) → Form X
  Provided : (cure : Cure) → (condition : Bool) → (form : Form X) → Form X
  Closed : (comma : Bool) → (close : Closing) → Form X
  Bare : (form : Form X) → Form X
  Followed : (place : Nonterminal) → (parameters : Parameters) → (node next : X) → Form X

abbrev pub role_in : Bool → Role
role_in as_pattern = if as_pattern then Pattern else Expression

-- the only parameter of an arrow function: a name alone, or another
abbrev pub only_phrase : Bool → Phrase → Phrase
only_phrase is_other p = if is_other then mark (codes "(") > p > mark (codes ")") else OptionalParentheses Parameter p

infixr 20 ◌⇢◌
abbrev pub ◌⇢◌ : {X : Type 0} → Form X → Form X → Form X
a ⇢ b = Both a b

-- the production without nonterminals
unfoldable pub forget : {X : Type 0} → (X → Role → Phrase) → Form X → Phrase
forget f (Fixed p) = p
forget f (Part place parameters role n) = f n role
forget f (Simple named place parameters n) = f n Expression
forget f (Shaped shape place parameters role n) = f n role
forget f (Restricted lookahead place parameters as_pattern n) = f n (role_in as_pattern)
forget f (Lone place parameters n) = only_phrase (is_never (f n PlainParameter)) (f n Pattern)
forget f (Both a b) = Then (forget f a) (forget f b)
forget f (Provided cure condition a) = forget f a
forget f (Closed comma close) = CommaBefore close
forget f (Bare a) = OptionalParentheses Argument (forget f a)
forget f (Followed place parameters n next) = f n Statement

-- the same over what links hold as something else
unfoldable pub map_form : {X Y : Type 0} → (X → Y) → Form X → Form Y
map_form g (Fixed p) = Fixed p
map_form g (Part place parameters role n) = Part place parameters role (g n)
map_form g (Simple named place parameters n) = Simple named place parameters (g n)
map_form g (Shaped shape place parameters role n) = Shaped shape place parameters role (g n)
map_form g (Restricted lookahead place parameters as_pattern n) = Restricted lookahead place parameters as_pattern (g n)
map_form g (Lone place parameters n) = Lone place parameters (g n)
map_form g (Both a b) = Both (map_form g a) (map_form g b)
map_form g (Provided cure condition a) = Provided cure condition (map_form g a)
map_form g (Closed comma close) = Closed comma close
map_form g (Bare a) = Bare (map_form g a)
map_form g (Followed place parameters n next) = Followed place parameters (g n) (g next)

-- ---- what the check says of a form, where f gives the summary of a part

abbrev pub is_target : Bool → Facts → Bool
is_target named facts = facts.is_simple && (named || not facts.is_name)

unfoldable pub asked : Cure → Verdict → Bool → Verdict
asked ByPlace v condition = by_place v condition
asked ByRule v condition = by_rule v condition
asked ByScope v condition = by_scope v condition
asked ByCore v condition = by_core v condition

abbrev pub of_part : Nonterminal → Verdict → Facts → Verdict
of_part place v facts = meet (standing v place facts.nonterminal) facts.verdict

-- the verdict so far, and of the form
unfoldable pub judge : {X : Type 0} → (X → Role → Parameters → Summary) → Verdict → Form X → Verdict
judge f v (Fixed p) = v
judge f v (Part place parameters role n) = of_part place v (f n role parameters).facts
judge f v (Simple named place parameters n) =
    of_part place (by_rule v (is_target named (f n Expression parameters).facts)) (f n Expression parameters).facts
judge f v (Shaped shape place parameters role n) =
    of_part place (asked (cure_of shape) v (fits shape (shape_in f n))) (f n role parameters).facts
judge f v (Restricted lookahead place parameters as_pattern n) =
    of_part place (asked ByPlace v (not (excludes lookahead (begins_in f n (role_in as_pattern))))) (f n (role_in as_pattern) parameters).facts
judge f v (Lone place parameters n) = of_part place v (f n Pattern parameters).facts
judge f v (Both a b) = judge f (judge f v a) b
judge f v (Provided cure condition a) = judge f (asked cure v condition) a
judge f v (Closed comma close) = v
judge f v (Bare a) = judge f v a
judge f v (Followed place parameters n next) = of_part place v (f n Statement (before (empty_in f next) parameters)).facts

-- the same, as a condition in a grammar
unfoldable pub is_met : Grammar → Cure → Bool → Bool
is_met grammar ByPlace condition = not grammar.places || condition
is_met grammar ByRule condition = condition
is_met grammar ByScope condition = condition
is_met grammar ByCore condition = grammar.wide || condition

unfoldable pub stands : Bool → Nonterminal → Nonterminal → Bool
stands places place part = takes place part || (not places && is_mended place part)

unfoldable pub keeps : {X : Type 0} → Grammar → (X → Role → Parameters → Summary) → Form X → Bool
keeps grammar f (Fixed p) = true
keeps grammar f (Part place parameters role n) =
    stands grammar.places place (f n role parameters).facts.nonterminal && holds_in grammar (f n role parameters).facts.verdict
keeps grammar f (Simple named place parameters n) =
    is_target named (f n Expression parameters).facts
    && (stands grammar.places place (f n Expression parameters).facts.nonterminal && holds_in grammar (f n Expression parameters).facts.verdict)
keeps grammar f (Shaped shape place parameters role n) =
    is_met grammar (cure_of shape) (fits shape (shape_in f n))
    && (stands grammar.places place (f n role parameters).facts.nonterminal && holds_in grammar (f n role parameters).facts.verdict)
keeps grammar f (Restricted lookahead place parameters as_pattern n) =
    is_met grammar ByPlace (not (excludes lookahead (begins_in f n (role_in as_pattern))))
    && (stands grammar.places place (f n (role_in as_pattern) parameters).facts.nonterminal && holds_in grammar (f n (role_in as_pattern) parameters).facts.verdict)
keeps grammar f (Lone place parameters n) =
    stands grammar.places place (f n Pattern parameters).facts.nonterminal && holds_in grammar (f n Pattern parameters).facts.verdict
keeps grammar f (Both a b) = keeps grammar f a && keeps grammar f b
keeps grammar f (Provided cure condition a) = is_met grammar cure condition && keeps grammar f a
keeps grammar f (Closed comma close) = true
keeps grammar f (Bare a) = keeps grammar f a
keeps grammar f (Followed place parameters n next) =
    stands grammar.places place (f n Statement (before (empty_in f next) parameters)).facts.nonterminal
    && holds_in grammar (f n Statement (before (empty_in f next) parameters)).facts.verdict

-- ---- lists

-- each with a mark before it
unfoldable pub each_after : {X A : Type 0} → List ℕ → (A → Form X) → List A → Form X
each_after between each [] = Fixed Nothing
each_after between each (x ∷ xs) = Fixed (mark between) ⇢ each x ⇢ each_after between each xs

-- one after another, with a mark between
unfoldable pub listed : {X A : Type 0} → List ℕ → (A → Form X) → List A → Form X
listed between each [] = Fixed Nothing
listed between each (x ∷ xs) = each x ⇢ each_after between each xs

-- one after another
unfoldable pub in_order : {X A : Type 0} → (A → Form X) → List A → Form X
in_order each [] = Fixed Nothing
in_order each (x ∷ xs) = each x ⇢ in_order each xs

-- the same with a mark between, of two at least
unfoldable pub some_listed : {X A : Type 0} → List ℕ → (A → Form X) → List A → Form X
some_listed between each [] = Provided ByRule false (Fixed Never)
some_listed between each (x ∷ []) = Provided ByRule false (each x ⇢ Fixed Nothing)
some_listed between each (x ∷ y ∷ xs) = each x ⇢ each_after between each (y ∷ xs)

-- one after another, with commas between; the last may be a rest
unfoldable pub ending_after : {X A : Type 0} → (Nonterminal → A → Form X) → List A → Form X
ending_after each [] = Fixed Nothing
ending_after each (x ∷ []) = Fixed (mark (codes ",")) ⇢ each nt.LastElement x ⇢ Fixed Nothing
ending_after each (x ∷ y ∷ xs) = Fixed (mark (codes ",")) ⇢ each nt.PatternElement x ⇢ ending_after each (y ∷ xs)

unfoldable pub ending_listed : {X A : Type 0} → (Nonterminal → A → Form X) → List A → Form X
ending_listed each [] = Fixed Nothing
ending_listed each (x ∷ []) = each nt.LastElement x ⇢ Fixed Nothing
ending_listed each (x ∷ y ∷ xs) = each nt.PatternElement x ⇢ ending_after each (y ∷ xs)

-- a hole among elements has no token
unfoldable pub element : {X A : Type 0} → (A → Form X) → Option A → Form X
element each None = Fixed Nothing
element each (Some x) = each x

-- the verdict so far, and of each
unfoldable pub verdict_all : {A : Type 0} → (A → Verdict → Verdict) → Verdict → List A → Verdict
verdict_all of_each v [] = v
verdict_all of_each v (x ∷ xs) = verdict_all of_each (of_each x v) xs

unfoldable pub verdict_of : {A : Type 0} → (A → Verdict → Verdict) → Option A → Verdict → Verdict
verdict_of of_each None v = v
verdict_of of_each (Some x) v = of_each x v
