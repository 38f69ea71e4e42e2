-- Laws of what is read (own). The function that they are about is in `Reading`.
use Rattle.std.specs.Prelude.{◌≡◌, ◌↔◌, ℕ, List, Option, Some, None, codes, option_and_then}
use Rattle.serde_json.specs.Data.{Data}
use Rattle.serde_json.specs.Find.{get}
use Rattle.wl_codec.specs.declared.fault.CodecFault.{CodecFault}
use Rattle.wl_codec.specs.declared.message.Message.{Message}
use Rattle.wl_codec.specs.declared.message.Reading.{Reading}
use Rattle.wl_codec.specs.declared.message.Reading.TheVariants.{Good, Bad}
use Rattle.wl_codec.specs.declared.message.Line.{Line}
use Rattle.wl_codec.specs.declared.message.Line.TheVariants as lines
use Rattle.wl_codec.specs.Reading.{whole, reading_of, line_of}
use Rattle.wl_codec.specs.Says.{Says, LineSays}
use Rattle.wl_codec.specs.Faults.{message_checks, line_checks, first_fault}

-- A value is read as a message exactly where it says that message.
abbrev pub MessagesAreReadAsSaid : Type 0
MessagesAreReadAsSaid = (d : Data) (m : Message) → (reading_of (Some d) ≡ Good m) ↔ Says d m

abbrev pub LinesAreReadAsSaid : Type 0
LinesAreReadAsSaid = (d : Data) (agent : List ℕ) (m : Message)
    → (line_of (Some d) ≡ lines.Good agent m) ↔ LineSays d agent m

abbrev pub fault_of : Reading → Option CodecFault
fault_of (Good m) = None
fault_of (Bad id fault) = Some fault

abbrev pub line_fault_of : Line → Option CodecFault
line_fault_of (lines.Good agent m) = None
line_fault_of (lines.Bad id fault) = Some fault

-- The fault is that of the first check that fails, and where none fails there is no fault.
abbrev pub FirstFaultIsFound : Type 0
FirstFaultIsFound =
    ((d : Data) → fault_of (reading_of (Some d)) ≡ first_fault (message_checks d))
    × ((d : Data) → line_fault_of (line_of (Some d)) ≡ first_fault (line_checks d))

-- the whole number at `id`, if there is one
abbrev pub id_in : Data → Option ℕ
id_in d = option_and_then whole (get (codes "id") d)

-- A message keeps its id, whatever else is wrong with it.
abbrev pub BadMessagesKeepTheirIds : Type 0
BadMessagesKeepTheirIds =
    ((d : Data) (id : Option ℕ) (fault : CodecFault) → reading_of (Some d) ≡ Bad id fault → id ≡ id_in d)
    × ((d : Data) (id : Option ℕ) (fault : CodecFault) → line_of (Some d) ≡ lines.Bad id fault → id ≡ id_in d)
