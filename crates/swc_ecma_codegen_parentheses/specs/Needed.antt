-- Which parentheses can't be left out.
use Rattle.std.specs.Prelude.{◌≡◌, ⊤, Bool, true, false, ◌&&◌, not, Option, Some, None, if◌then◌else◌}
use Rattle.swc_ecma_codegen_grammar.specs.declared.roles.Role.{Role}
use Rattle.swc_ecma_codegen_grammar.specs.declared.roles.Role.TheVariants.{Callee, Expression}
use Rattle.swc_ecma_codegen_syntax.specs.declared.lookahead.Beginning.{Beginning}
use Rattle.swc_ecma_codegen_syntax.specs.declared.lookahead.Lookahead.{Lookahead}
use Rattle.swc_ecma_codegen_syntax.specs.declared.lookahead.Lookahead.TheVariants.{StatementStart}
use Rattle.swc_ecma_codegen_syntax.specs.declared.nonterminals.Nonterminal.{Nonterminal}
use Rattle.swc_ecma_codegen_syntax.specs.declared.nonterminals.Nonterminal.TheVariants as nt
use Rattle.swc_ecma_codegen_syntax.specs.Beginnings.{goes_on, goes_on_in_brackets}
use Rattle.swc_ecma_codegen_syntax.specs.declared.parameters.Parameters.{Parameters}
use Rattle.swc_ecma_codegen_syntax.specs.declared.verdicts.Facts.{Facts}
use Rattle.swc_ecma_codegen_syntax.specs.Lookahead.{excludes}
use Rattle.swc_ecma_codegen_syntax.specs.Nonterminals.{takes}
use Rattle.swc_ecma_codegen_syntax.specs.Parameters.{of_script}
use Rattle.swc_ecma_codegen_syntax.specs.declared.verdicts.Shape.TheVariants as shapes
use Rattle.swc_ecma_codegen_syntax.specs.Shapes.{fits}
use Rattle.swc_ecma_codegen_syntax.specs.Summary.{Summary, begins_in, shape_in}
use Rattle.swc_ecma_codegen_parentheses.specs.declared.mends.Usage.{Usage}
use Rattle.swc_ecma_codegen_parentheses.specs.declared.mends.Usage.TheVariants as usages

-- a text that begins so meets a lookahead restriction, if there is one
unfoldable pub meets : Option Lookahead → Beginning → Bool
meets None begins = true
meets (Some lookahead) begins = not (excludes lookahead begins)

-- A nonterminal derives a node with these facts by unit productions, and no parentheses are missing in it. Of TypeScript, which has no grammar
-- here, that is never said.
unfoldable pub derives : Nonterminal → Facts → Bool
derives place facts = takes place facts.nonterminal && (facts.verdict.covered && facts.verdict.parenthesized)

-- an emission that minifies leaves `()` of `new A()` away
abbrev pub minified : Parameters → Parameters
minified c = record c { minify = true }

-- what a text begins with that goes on behind it: `let` and `[` may not begin a statement
abbrev pub behind : Bool → Beginning → Beginning
behind before_bracket begins = if before_bracket then goes_on_in_brackets begins else goes_on begins

-- What is a statement, or stands as an operand, can't stand there without parentheses: its nonterminal doesn't derive it, or a lookahead restriction forbids
-- what it begins with. What `new` calls can't stand there in a text with `()` or in one that is minified. Behind `@` stand names with dots between and calls
-- of such. Of what is used in another way nothing is said.
unfoldable pub needs : {X : Type 0} → (X → Role → Parameters → Summary) → Usage → X → Type 0
needs f (usages.Part place at) n = (meets at.lookahead (begins_in f n Expression) && derives place (f n Expression at.parameters).facts) ≡ false
needs f (usages.Called place before_bracket at) n =
    (meets at.lookahead (behind before_bracket (begins_in f n Callee)) && derives place (f n Callee at.parameters).facts) ≡ false
needs f (usages.CalledByNew place at) n = (derives place (f n Expression at.parameters).facts && derives place (f n Expression (minified at.parameters)).facts) ≡ false
needs f usages.Statement n = (meets (Some StatementStart) (begins_in f n Expression) && derives nt.Expression (f n Expression of_script).facts) ≡ false
needs f usages.Decorator n = fits shapes.Decorator (shape_in f n) ≡ false
needs f usage n = ⊤
