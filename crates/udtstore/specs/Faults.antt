-- Why a command line has no words for the top call.
use Rattle.udt_disk.specs.declared.text.TextFault.{TextFault}
use Rattle.udt_disk.specs.declared.text.TextFault.TheVariants as texts
use Rattle.udtstore.specs.declared.WordsFault.{WordsFault}
use Rattle.udtstore.specs.declared.WordsFault.TheVariants.{Refused, NoMemory}

-- a word that is too long is refused
abbrev pub fault_of_word : TextFault → WordsFault
fault_of_word (texts.TooLong len) = Refused
fault_of_word texts.NoMemory = NoMemory
