mod Numbers
mod Said
mod Words
