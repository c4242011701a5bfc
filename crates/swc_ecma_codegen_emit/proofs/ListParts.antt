-- What lists of nodes write is what they read as.
use Rattle.std.proofs.Common.{true, false, List, [], ◌∷◌, map, codes, refl}
use Rattle.std.specs.Str.{chars, is_utf8}
use Rattle.swc_ecma_codegen_grammar.specs.Punctuators.{is_punctuator, punctuators}
use Rattle.swc_ecma_codegen_grammar.specs.Texts.{is_same, is_among}
use Rattle.swc_ecma_codegen_grammar.specs.Phrases as phrases
use Rattle.swc_ecma_codegen_grammar.specs.Phrases.{Phrase, mark}
use Rattle.swc_ecma_codegen_tokens.specs.Run.{Env, Part}
use Rattle.swc_ecma_codegen_tokens.specs.Written.{IsMark}
use Rattle.swc_ecma_codegen_tokens.proofs.Reading.Printed.{writes_formatting_space}
use Rattle.swc_ecma_codegen_tokens.proofs.Reading.Phrased.{Prints, then, before, prints_nothing, prints_never, prints_punct, PrintsAt, prints_wider}
use Rattle.swc_ecma_codegen_emit.specs.Lists.{comma, listed, in_order}
use Rattle.swc_ecma_codegen_tokens.proofs.Filling.Shapes.{open_, ended, ended_if_any}

comma_is_mark : IsMark (codes ",")
unfolding is_punctuator is_among is_same punctuators chars is_utf8 lib.Utf8.encode
comma_is_mark = record { utf8 = refl; ascii = refl; shape = refl }

comma_prints : (env : Env) → PrintsAt ended env (comma false) (mark (codes ","))
unfolding comma
comma_prints env = before (prints_punct env (codes ",") comma_is_mark) (writes_formatting_space env)

each_after_prints : {A : Type 0} (env : Env) (each : A → Part) (e : A → Phrase) → ((x : A) → Prints env (each x) (e x)) → (xs : List A) → PrintsAt open_ env (listed each false xs) (phrases.each_after (codes ",") (map e xs))
unfolding listed phrases.each_after
each_after_prints env each e law [] = prints_nothing
each_after_prints env each e law (x ∷ xs) = prints_wider open_ refl (then (comma_prints env) (then (law x) (each_after_prints env each e law xs)))

pub some_listed_prints : {A : Type 0} (env : Env) (each : A → Part) (e : A → Phrase) → ((x : A) → Prints env (each x) (e x)) → (xs : List A) → Prints env (listed each true xs) (phrases.some_listed (codes ",") (map e xs))
unfolding listed phrases.some_listed comma
some_listed_prints env each e law [] = prints_never
some_listed_prints env each e law (x ∷ xs) = then (law x) (each_after_prints env each e law xs)

pub in_order_prints : {A : Type 0} (env : Env) (each : A → Part) (e : A → Phrase) → ((x : A) → PrintsAt ended env (each x) (e x)) → (xs : List A) → PrintsAt ended_if_any env (in_order each xs) (phrases.in_order (map e xs))
unfolding in_order phrases.in_order
in_order_prints env each e law [] = prints_wider ended_if_any refl prints_nothing
in_order_prints env each e law (x ∷ xs) = prints_wider ended_if_any refl (then (law x) (in_order_prints env each e law xs))
