use Rattle.origins.proofs.PlaceLemmas.{data_beside, text_beside}
use Rattle.origins.proofs.sharing.file_of.Goals as goal

pub returns-clause-text : goal.returns-clause-text
returns-clause-text c = text_beside c.args.object.now (rw c.file-file.ensures.value at c.header-header.ensures.fits) c.file-file.ensures.well

pub returns-clause-datas : goal.returns-clause-datas
returns-clause-datas c = data_beside c.args.object.now (rw c.file-file.ensures.value at c.header-header.ensures.fits) c.file-file.ensures.well
