-- The promise is the theorem: the sentences on one line, and that on a text.
use Rattle.frame.specs.declared.Width.TheVariants.{Short, Long}
use Rattle.convert.specs.Recorded.{Conversions}
use Rattle.convert.proofs.Shapes.{turned_without}
use Rattle.convert.proofs.Laws.{lengthen_refuses, shorten_refuses, shorten_too_wide, long_already, short_already, and_back, and_forth, lengthened_frame, shortened_frame}
use Rattle.convert.proofs.Texts.{schedules}
use Rattle.convert.proofs.conversions.Goals as goal

conversions : Conversions
conversions =
    record {
      lengthen_refuses = lengthen_refuses;
      shorten_refuses = shorten_refuses;
      shorten_too_wide = shorten_too_wide;
      lengthen_passes = turned_without Long;
      shorten_passes = turned_without Short;
      long_already = long_already;
      short_already = short_already;
      and_back = and_back;
      and_forth = and_forth;
      lengthened_frame = lengthened_frame;
      shortened_frame = shortened_frame;
      schedules = schedules;
    }

pub returns : goal.returns
returns c = conversions
