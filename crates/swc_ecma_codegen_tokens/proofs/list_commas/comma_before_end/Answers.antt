use Rattle.std.proofs.Common.{◌≡◌, ℕ, ◌+◌, ◌<◌, ◌==◌, Bool, cond, List, length, get_or, drop, sym, ap, ◌∙◌, arith}
use Rattle.std.proofs.lemmas.Iterator.{YieldsList-from_chars}
use Rattle.std.proofs.lemmas.List.{at_drop_more, at_drop_all, length_push}
use Rattle.std.proofs.lemmas.Iterator.Consumers.{YieldsList-turn, YieldsList-end}
use Rattle.std.specs.Str.{chars}
use Rattle.std.specs.Char.{is_whitespace}
use Rattle.swc_ecma_codegen_tokens.specs.Lists.{comma_before_end}
use Rattle.swc_ecma_codegen_tokens.proofs.list_commas.comma_before_end.Goals as goal

next_character : (before here : Bool) (cs : List ℕ) (n c : ℕ) → (n < length cs) × (c ≡ get_or cs n c) → comma_before_end before here (drop n cs) ≡ comma_before_end here (cond (is_whitespace c) here (c == 44)) (drop (n + 1) cs)
unfolding comma_before_end
next_character before here cs n c h = at_drop_more (comma_before_end before here) cs n c h.0 ∙ ap (λ x. comma_before_end here (cond (is_whitespace x) here (x == 44)) (drop (n + 1) cs)) (sym h.1)

pub loop-c-preserved : goal.loop-c-preserved
loop-c-preserved c =
    let t = YieldsList-turn (YieldsList-from_chars c.args.text.now c.utf8.text cc) c.loop-c.yielded _ c.loop-c.yielded_by _ _ c.in-Some.c c.in-Some.is c.next.ensures.steps in
    let e = next_character c.loop-c.before c.loop-c.here _ _ _ t in
    let n = length_push c.loop-c.yielded c.in-Some.c in
    grind (arith)

pub returns : goal.returns
unfolding comma_before_end
returns c =
    let t = YieldsList-end (YieldsList-from_chars c.args.text.now c.utf8.text cc) c.loop-c.yielded _ c.loop-c.yielded_by _ _ c.in-None.is c.next.ensures.steps in
    sym (at_drop_all (comma_before_end c.loop-c.before c.loop-c.here) (chars c.args.text.now) (length c.loop-c.yielded) (omega (arith, t.1))) ∙ c.loop-c.invariant
