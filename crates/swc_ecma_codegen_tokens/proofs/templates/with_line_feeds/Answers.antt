use Rattle.std.proofs.Common.{rules, sym, ◌∙◌}
use Rattle.swc_ecma_codegen_tokens.proofs.LiteralTokens.LineFeeds.{fed_more, fed_kept, fed_turned, fed_dropped, fed_whole}
use Rattle.swc_ecma_codegen_tokens.proofs.templates.with_line_feeds.Goals as goal

pub loop-c-preserved-in_ok-push : goal.loop-c-preserved-in_ok-push
loop-c-preserved-in_ok-push c = record {
  goes = fed_more _ _ _ _ _ _ c.loop-c.invariant.goes c.in_ok-push.ensures.bytes (fed_kept _ _ _ c.in-Some.ensures c.if-c-ne13.true);
  text = search rules;
}

pub loop-c-preserved-in_ok-push-2 : goal.loop-c-preserved-in_ok-push-2
loop-c-preserved-in_ok-push-2 c = record {
  goes = fed_more _ _ _ _ _ _ c.loop-c.invariant.goes c.in_ok-push-2.ensures.bytes (fed_turned _ _ _ c.in-Some.ensures c.if-c-ne13.false (sym c.begins_line_feed.ensures ∙ c.if-not-begins_line_feed.true));
  text = search rules;
}

pub loop-c-preserved : goal.loop-c-preserved
loop-c-preserved c = record {
  goes = fed_dropped _ _ _ _ _ c.in-Some.ensures c.if-c-ne13.false (sym c.begins_line_feed.ensures ∙ c.if-not-begins_line_feed.false) c.loop-c.invariant.goes;
  text = search rules;
}

pub returns : goal.returns
returns c = fed_whole _ _ _ c.in_default.ensures c.loop-c.invariant.goes
