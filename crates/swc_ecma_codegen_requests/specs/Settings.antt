-- The settings that a request asks for.
use Rattle.std.specs.Option.{option_map, unwrap_or}
use Rattle.swc_ecma_codegen_common.specs.declared.versions.EsVersion.{EsVersion}
use Rattle.swc_ecma_codegen_common.specs.declared.versions.EsVersion.TheVariants as versions
use Rattle.swc_ecma_codegen_settings.specs.Defaults.{default_config}
use Rattle.swc_ecma_codegen_settings.specs.declared.config.Config.{Config}
use Rattle.swc_ecma_codegen_requests.specs.declared.layouts.Layout.{Layout}
use Rattle.swc_ecma_codegen_requests.specs.declared.settings.Settings.{Settings}
use Rattle.swc_ecma_codegen_requests.specs.declared.settings.Version.{Version}
use Rattle.swc_ecma_codegen_requests.specs.declared.settings.Version.TheVariants.{Es3, Es5, Es2015, Es2016, Es2017, Es2018, Es2019, Es2020, Es2021, Es2022, EsNext}

abbrev pub version_of : Version → EsVersion
version_of Es3 = versions.Es3
version_of Es5 = versions.Es5
version_of Es2015 = versions.Es2015
version_of Es2016 = versions.Es2016
version_of Es2017 = versions.Es2017
version_of Es2018 = versions.Es2018
version_of Es2019 = versions.Es2019
version_of Es2020 = versions.Es2020
version_of Es2021 = versions.Es2021
version_of Es2022 = versions.Es2022
version_of EsNext = versions.EsNext

-- the settings that these ask for: the latest version unless one is named, and else what is given
abbrev pub config_of : Settings → Config
config_of settings =
    record {
      target = unwrap_or (option_map version_of settings.target) default_config.target;
      minify = settings.minify;
      ascii_only = settings.ascii_only;
      omit_last_semi = settings.omit_last_semi;
      emit_assert_for_import_attributes = settings.emit_assert_for_import_attributes;
      inline_script = settings.inline_script;
      max_line = settings.max_line;
    }

-- how lines begin and end that these ask for
abbrev pub layout_of : Settings → Layout
layout_of settings = record { indent = settings.indent; new_line = settings.new_line }
