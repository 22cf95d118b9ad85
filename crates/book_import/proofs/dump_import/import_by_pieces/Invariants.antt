use Rattle.book_import.specs.ReadLimits.{piece_length}
use Rattle.book_import.proofs.dump_import.import_by_pieces.Given as goal

-- each read asks for a piece
abbrev pub ghost-import_with : goal.ghost-import_with
ghost-import_with g a = piece_length
