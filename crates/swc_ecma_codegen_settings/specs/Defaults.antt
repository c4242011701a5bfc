-- The settings that stand where none are given.
use Rattle.std.specs.Prelude.{false, None}
use Rattle.swc_ecma_codegen_common.specs.declared.versions.EsVersion.TheVariants.{EsNext}
use Rattle.swc_ecma_codegen_settings.specs.declared.config.Config.{Config}

-- the latest version, no greatest length of lines, and all else false
abbrev pub default_config : Config
default_config =
    record {
      target = EsNext;
      ascii_only = false;
      minify = false;
      omit_last_semi = false;
      emit_assert_for_import_attributes = false;
      inline_script = false;
      max_line = None;
    }
