-- What the lists of tokens depend on, of a configuration.
use Rattle.swc_ecma_codegen_grammar.specs.Settings.{Settings}
use Rattle.swc_ecma_codegen_settings.specs.declared.config.Config.{Config}

abbrev pub settings_of : Config → Settings
settings_of config = record { target = config.target; ascii_only = config.ascii_only; minify = config.minify; assert_for_attributes = config.emit_assert_for_import_attributes }
