-- What the code hands about to read records with, and the reader that it is. Assumes nothing.
use Rattle.at_record.specs.Outcome.{Reader, reader}
use Rattle.at_record.specs.declared.RecordReader.{RecordReader}

abbrev pub under : RecordReader → Reader
under f = reader f.columns.now f.form.k f.rows f.form.d
