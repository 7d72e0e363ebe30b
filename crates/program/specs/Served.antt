-- What a program makes of a script.
-- Answered: what was written for its lines, and what it came to
use Rattle.std.specs.Prelude.{◌≡◌, ℕ, true, List, Option}
use Rattle.std.specs.Io.KnownBytes.{Appends}
use Rattle.std.specs.List.{list_all}
use Rattle.reading.specs.Lines.{Line, knows_line}
use Rattle.reading.specs.declared.known.Known.{Known}
use Rattle.script.specs.Tallies.{fresh, after_all, tally_of}
use Rattle.script.specs.Texts.{transcript}
use Rattle.script.specs.declared.tally.Tally.{Tally}

-- lines that are all known were carried out; what they are answered, and what the script came to, was
-- written behind what the output held before, as far as that is known
pub record Answered (known : Known) (ls : List Line) (before after : Option (List ℕ)) (tally : Tally) : Type 0 where
  pub known_all : list_all (knows_line known) ls ≡ true
  pub total : tally ≡ tally_of (after_all ls fresh)
  pub wrote : Appends before after (transcript ls)
