-- What is to be converted: the options and the paths of a call, and the files that were read.
use Rattle.std.specs.Prelude.{ℕ, Bool, List}
use Rattle.aout_core.specs.Contents.{Contents}
use Rattle.gnu_objects.specs.declared.options.Options.{Options}

-- the path of a file, and that of its object
pub record Job : Type 0 where
  pub from : List ℕ
  pub to : List ℕ

-- the options, whether what becomes of names is not reported, and the files
pub record Conversion : Type 0 where
  pub options : Options
  pub is_quiet : Bool
  pub jobs : List Job

-- a file that was read: its path, that of its object, and its bytes
pub record Source : Type 0 where
  pub from : List ℕ
  pub to : List ℕ
  pub bytes : List ℕ

-- a file that was read, and the object that it becomes
pub record Target : Type 0 where
  pub source : Source
  pub object : Contents
