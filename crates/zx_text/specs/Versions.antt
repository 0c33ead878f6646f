-- The versions that values of the code name.
use Rattle.zx_text.specs.Files as files
use Rattle.zx_text.specs.declared.version.Version.{Version}
use Rattle.zx_text.specs.declared.version.Version.TheVariants.{One, Two}

-- the version of this name
abbrev pub version_named : Version → files.Version
version_named One = files.One
version_named Two = files.Two
