-- Tables in which nothing stands yet. Assumes nothing.
use Rattle.std.specs.Prelude.{replicate}
use Rattle.modes.specs.declared.Mode.{Mode}
use Rattle.modes.specs.declared.Mode.TheVariants.{Plain}
use Rattle.modes.specs.declared.Plain.TheVariants.{Int}
use Rattle.scopes.specs.declared.Class.TheVariants.{Brick}
use Rattle.scopes.specs.declared.Declared.{Declared}
use Rattle.scopes.specs.declared.Component.{Component}
use Rattle.space.specs.declared.Charge.{Charge}
use Rattle.checker.specs.declared.CheckTable.{CheckTable}

abbrev pub blank_name : Declared
blank_name = record { item = 0; class = Brick }

abbrev pub blank_mode : Mode
blank_mode = Plain Int

abbrev pub blank_part : Component
blank_part = record { owner = 0; item = 0; mode = blank_mode }

abbrev pub blank_charge : Charge
blank_charge = record { item = 0; amount = 0 }

-- 4,096 blanks in each
abbrev pub blank_tables : CheckTable
blank_tables =
    record {
      names = replicate 4096 blank_name;
      parts = replicate 4096 blank_part;
      takes = replicate 4096 blank_mode;
      charges = replicate 4096 blank_charge;
    }
