-- Inputs as they are held once they are tested: `inputs_in`.
-- Assumes nothing.
use Rattle.fonts.specs.Lent.{font_lent}
use Rattle.fallback.specs.Plan.{Inputs}
use Rattle.fallback.specs.declared.Inputs.{Inputs as InputsLent}

abbrev pub inputs_in : InputsLent → Inputs
inputs_in i =
    record {
      masks = i.masks;
      font = font_lent i.font;
      shaping = i.shaping.now;
      forms = i.forms.now;
      threes = record { components = i.threes.components.now; ligatures = i.threes.ligatures.now };
      twos = record { components = i.twos.components.now; ligatures = i.twos.ligatures.now };
      marks = record { components = i.marks.components.now; ligatures = i.marks.ligatures.now };
    }
