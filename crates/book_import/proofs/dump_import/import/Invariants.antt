use Rattle.book_import.specs.ReadLimits.{read_length}
use Rattle.book_import.proofs.dump_import.import.Given as goal

-- each read asks for as many bytes as one of an import does
abbrev pub ghost-import_with : goal.ghost-import_with
ghost-import_with g a = read_length
