-- The parts that write what syntax leaves open.
use Rattle.std.specs.Prelude.{None, Bool, if◌then◌else◌, codes}
use Rattle.swc_ecma_codegen_grammar.specs.Settings.{is_up_to_es5}
use Rattle.swc_ecma_codegen_tokens.specs.Run.{Part, when_minified, no_part}
use Rattle.swc_ecma_codegen_tokens.specs.Words.{keyword, punct, semi}

-- a part in parentheses or bare: `(a) => b`, `a => b`
unfoldable pub optional_parentheses : Bool → Part → Part
optional_parentheses there part rest = if there then punct (codes "(") (part (punct (codes ")") rest)) else part rest

-- no arguments: `new A()`, and minified `new A`
unfoldable pub empty_arguments : Part
empty_arguments = when_minified no_part (λ rest. punct (codes "(") (punct (codes ")") rest))

-- the semicolon that ends `do a; while (b);`, which is there for a version before 2015
unfoldable pub loop_ending : Part
loop_ending rest env = if is_up_to_es5 env.config.target then semi rest env else rest env

-- the word before import attributes: `with`, or `assert` where the settings ask for it
unfoldable pub attributes_word : Part
attributes_word rest env = if env.config.emit_assert_for_import_attributes then keyword None (codes "assert") rest env else keyword None (codes "with") rest env
