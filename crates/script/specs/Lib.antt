-- How a script is read (the protocols of reference/survey.py and figures.py): read these files from top to bottom.
pub mod Text
pub mod Laid
pub mod Words
pub mod Hex
pub mod Remarks
pub mod Calls
