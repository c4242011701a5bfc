use Rattle.std.proofs.Common.{◌∙◌, sym}
use Rattle.swc_ecma_codegen_source_maps.proofs.Encoding.{all_encodable, next_encodable, none_encodable}
use Rattle.swc_ecma_codegen_source_maps.proofs.mappings.is_encodable.Goals as goal

pub returns-then-not-fits : goal.returns-then-not-fits
returns-then-not-fits c =
    sym (c.loop-mapping.invariant ∙ none_encodable c.loop-mapping.line c.args.mappings.now c.loop-mapping.mapping-index _ c.fits_behind-fits.result c.loop-mapping-test.true c.fits_behind-fits.ensures c.if-not-fits.true)

pub loop-mapping-preserved : goal.loop-mapping-preserved
loop-mapping-preserved c =
    c.loop-mapping.invariant ∙ next_encodable c.loop-mapping.line c.args.mappings.now c.loop-mapping.mapping-index _ c.fits_behind-fits.result c.loop-mapping-test.true c.fits_behind-fits.ensures c.if-not-fits.false

pub returns : goal.returns
returns c = sym (c.loop-mapping.invariant ∙ all_encodable c.loop-mapping.line c.args.mappings.now c.loop-mapping.mapping-index c.loop-mapping-test.false)
