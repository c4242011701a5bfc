use Rattle.std.proofs.Common.{◌∙◌, ◌<◌, ◌++◌, ap, arith}
use Rattle.std.specs.Char.{encode_utf8}
use Rattle.std.specs.String.{string_bytes}
use Rattle.std.proofs.lemmas.Bool.Decides.{nat_tests}
use Rattle.swc_ecma_codegen_source_maps.specs.Pieces.{Grows, SaysNumber}
use Rattle.swc_ecma_codegen_source_maps.proofs.Digits.{on_push, one_digit_more, whole_number}
use Rattle.swc_ecma_codegen_source_maps.proofs.numbers.push_number.Goals as goal

pub loop-rest-preserved : goal.loop-rest-preserved
loop-rest-preserved c =
    one_digit_more c.args.number c.loop-rest.rest c.digit.result (string_bytes c.args.text.now) (string_bytes c.loop-rest.text) (string_bytes c.push.new.self) c.loop-rest.invariant c.digit.ensures.value
    (c.in_ok-push.ensures.bytes ∙ ap (λ t. string_bytes c.loop-rest.text ++ t) (c.push.ensures.ascii c.digit.ensures.ascii))

pub returns : goal.returns
returns c =
    let least : c.loop-rest.rest < 32 = grind (arith, nat_tests, c.loop-rest-test.false) in
    on_push c.push-2.result (Grows (SaysNumber c.args.number) (string_bytes c.args.text.now) (string_bytes c.push-2.new.self)) (string_bytes c.push-2.new.self) (string_bytes c.loop-rest.text ++ encode_utf8 c.digit-2.result) (string_bytes c.loop-rest.text) c.push-2.ensures.bytes
    (λ e. whole_number c.args.number c.loop-rest.rest c.digit-2.result (string_bytes c.args.text.now) (string_bytes c.loop-rest.text) (string_bytes c.push-2.new.self) c.loop-rest.invariant c.digit-2.ensures.value least
    (e ∙ ap (λ t. string_bytes c.loop-rest.text ++ t) (c.push-2.ensures.ascii c.digit-2.ensures.ascii)))
