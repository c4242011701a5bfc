-- Choices: a law of the words holds of the plan.
use Rattle.std.specs.Prelude.{None, Bool, if◌then◌else◌, codes}
use Rattle.swc_ecma_codegen_grammar.specs.Settings.{is_up_to_es5}
use Rattle.swc_ecma_codegen_tokens.specs.Run.{Part, no_part}
use Rattle.swc_ecma_codegen_tokens.specs.Words.{keyword, punct, semi}
use Rattle.swc_ecma_codegen_laws.proofs.OfSteps.{OfSteps, when_minified_holds, either_at}
use Rattle.swc_ecma_codegen_tokens.specs.Choices.{empty_arguments, loop_ending, attributes_word}
use Rattle.swc_ecma_codegen_laws.proofs.StepsOfWords.{keyword_holds}

pub empty_arguments_holds : {holds : Bool → Part → Type 0} (words : OfSteps holds) (bounded : Bool) → holds bounded empty_arguments
unfolding empty_arguments no_part
empty_arguments_holds words bounded = when_minified_holds words bounded no_part (words.none bounded) (λ rest. punct (codes "(") (punct (codes ")") rest)) (words.and_then bounded (words.punct bounded (codes "(")) (words.punct bounded (codes ")")))

pub loop_ending_holds : {holds : Bool → Part → Type 0} (words : OfSteps holds) (bounded : Bool) → holds bounded loop_ending
unfolding loop_ending
loop_ending_holds words bounded = words.by_env bounded (λ now rest env. if is_up_to_es5 now.config.target then semi rest env else rest env) (λ now. (either_at words bounded (is_up_to_es5 now.config.target) (words.semi bounded) (words.none bounded)))

pub attributes_word_holds : {holds : Bool → Part → Type 0} (words : OfSteps holds) (bounded : Bool) → holds bounded attributes_word
unfolding attributes_word
attributes_word_holds words bounded = words.by_env bounded (λ now rest env. if now.config.emit_assert_for_import_attributes then keyword None (codes "assert") rest env else keyword None (codes "with") rest env) (λ now. (either_at words bounded now.config.emit_assert_for_import_attributes (keyword_holds words bounded None (codes "assert")) (keyword_holds words bounded None (codes "with"))))
