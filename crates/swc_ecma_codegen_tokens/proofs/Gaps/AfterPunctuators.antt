-- The last token after a punctuator.
use Rattle.std.proofs.Common.{◌≡◌, refl, rules as all}
use Rattle.swc_ecma_codegen_grammar.specs.Texts.{is_same}
use Rattle.swc_ecma_codegen_grammar.specs.GapRules as rules
use Rattle.swc_ecma_codegen_grammar.specs.GapRules.{mark_after}
use Rattle.swc_ecma_codegen_literals.specs.Punctuators.{spelling}
use Rattle.swc_ecma_codegen_literals.specs.declared.classes.TokenClass.TheVariants as class
use Rattle.swc_ecma_codegen_literals.specs.declared.punctuators.Punctuator.{Punctuator}
use Rattle.swc_ecma_codegen_tokens.specs.declared.previous.PreviousToken.{PreviousToken}
use Rattle.swc_ecma_codegen_tokens.specs.declared.previous.PreviousToken.TheVariants as last
use Rattle.swc_ecma_codegen_tokens.specs.PreviousToken.{after_mark, class_of, last_at}

after_each : (q p : Punctuator) → last_at (after_mark (class.Punctuator q) p) ≡ mark_after (rules.Mark (spelling q)) (spelling p)
unfolding last_at after_mark mark_after is_same
after_each q p = search all

-- it is what the gap rules say of each token of the class
pub after_is : (l : PreviousToken) (p : Punctuator) → last_at (after_mark (class_of l) p) ≡ mark_after (last_at l) (spelling p)
unfolding last_at class_of mark_after after_mark
after_is last.Start p = refl
after_is last.Separated p = refl
after_is last.WordEnd p = refl
after_is last.IntegerEnd p = refl
after_is (last.Mark q) p = after_each q p
after_is last.LessBang p = refl
after_is last.Closing p = refl
after_is last.Whole p = refl
after_is last.TextEnd p = refl
after_is last.TagNameEnd p = refl
after_is last.LineEnd p = refl
