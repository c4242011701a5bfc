use Rattle.std.proofs.Common.{◌≡◌, ◌+◌, ◌-◌, [], ◌∷◌, ◌++◌, false, true, length, sym, ap, ◌∙◌, arith, rules}
use Rattle.std.specs.Char.{len_utf8}
use Rattle.std.specs.Str.{IsUtf8, chars}
use Rattle.swc_ecma_codegen_source.specs.SourceTexts.{ends_line, line_ends}
use Rattle.swc_ecma_codegen_source.proofs.Ends.{length_past_char, ends_found, ends_passed, ends_whole}
use Rattle.swc_ecma_codegen_source.proofs.line_index.line_ends.Goals as goal

pub overflow_sub-text : goal.overflow_sub-text
overflow_sub-text c =
    let spelled : chars c.loop-c.rest.now ≡ c.in-Some.c ∷ chars c.in-Some.more.now = search rules in
    let text : IsUtf8 c.in-Some.more.now = search rules in
    let long : length c.loop-c.rest.now ≡ len_utf8 c.in-Some.c + length c.in-Some.more.now = length_past_char _ _ _ c.loop-c.invariant.utf8 text spelled in
    omega (arith, c.loop-c.invariant.within, long)

pub loop-c-preserved-in_ok-push : goal.loop-c-preserved-in_ok-push
loop-c-preserved-in_ok-push c =
    let spelled : chars c.loop-c.rest.now ≡ c.in-Some.c ∷ chars c.in-Some.more.now = search rules in
    let text : IsUtf8 c.in-Some.more.now = search rules in
    let long : length c.loop-c.rest.now ≡ len_utf8 c.in-Some.c + length c.in-Some.more.now = length_past_char _ _ _ c.loop-c.invariant.utf8 text spelled in
    let ends : ends_line c.in-Some.c (chars c.in-Some.more.now) ≡ true = sym c.ends_line.ensures ∙ c.if-ends_line.true in
    let items : c.push.new.self.items ≡ c.loop-c.ends.items ++ (length c.args.text.now - length c.in-Some.more.now) ∷ [] = search rules in
    record {
      goes = ends_found c.loop-c.ends.items _ _ _ c.in-Some.c (length c.args.text.now) c.loop-c.invariant.utf8 text spelled c.loop-c.invariant.within ends c.loop-c.invariant.goes
          ∙ ap (λ found. found ++ line_ends (length c.args.text.now - length c.in-Some.more.now) (chars c.in-Some.more.now)) (sym items);
      within = omega (arith, c.loop-c.invariant.within, long);
      utf8 = text;
    }

pub loop-c-preserved : goal.loop-c-preserved
loop-c-preserved c =
    let spelled : chars c.loop-c.rest.now ≡ c.in-Some.c ∷ chars c.in-Some.more.now = search rules in
    let text : IsUtf8 c.in-Some.more.now = search rules in
    let long : length c.loop-c.rest.now ≡ len_utf8 c.in-Some.c + length c.in-Some.more.now = length_past_char _ _ _ c.loop-c.invariant.utf8 text spelled in
    let goes_on : ends_line c.in-Some.c (chars c.in-Some.more.now) ≡ false = sym c.ends_line.ensures ∙ c.if-ends_line.false in
    record {
      goes = ends_passed c.loop-c.ends.items _ _ _ c.in-Some.c (length c.args.text.now) c.loop-c.invariant.utf8 text spelled c.loop-c.invariant.within goes_on c.loop-c.invariant.goes;
      within = omega (arith, c.loop-c.invariant.within, long);
      utf8 = text;
    }

pub returns-clause-exactly : goal.returns-clause-exactly
returns-clause-exactly c =
    let nothing : chars c.loop-c.rest.now ≡ [] = search rules in
    sym (ends_whole c.loop-c.ends.items _ c.loop-c.rest.now (length c.args.text.now) nothing c.loop-c.invariant.goes)
